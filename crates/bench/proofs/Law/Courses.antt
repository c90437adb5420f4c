-- Runs are the courses of their calls and losses.
use Rattle.std.proofs.Common.{◌≡◌, Bool, List, [], ◌∷◌, ◌++◌, map, refl, sym}
use Rattle.std.proofs.lemmas.List.{map-append}
use Rattle.wire.specs.declared.frame.Frame.{Frame}
use Rattle.bench.specs.Model.Lines.{Losses}
use Rattle.bench.specs.Model.States.{State}
use Rattle.bench.specs.Law.Runs as act
use Rattle.bench.specs.Law.Runs.{Act, Event, Acts, Happens, Run, none, more}
use Rattle.bench.specs.Law.Courses.{Ask, Begin, Serve, Hear, Tick, Settle, Asked, act_of, frames_of, after_ask, event_of, after_asked, course, ask_in, asked_in, Askable, AllAskable, RunsAreCourses}

-- what is asked is answered as the contract has it
acts : (k : Ask) (x : Losses) (s : State) → Askable k → Acts (act_of k s) (frames_of k s) x s (after_ask k x s)
acts (Begin m o) x s own = (own, refl, refl, refl)
acts Serve x s own = (refl, refl, refl)
acts Hear x s own = (refl, refl, refl)
acts Tick x s own = (refl, refl, refl)
acts (Settle k buffer) x s own = (refl, refl, refl, refl)

-- an event in front of a run
run_behind : {s u t : State} {e : Event} {es : List Event} → Happens e s u → Run u es t → Run s (e ∷ es) t
run_behind {s} {u} {t} {e} happens none = more [] s u e none happens
run_behind {s} {u} {t} {e} happens (more es v w g run last) = more (e ∷ es) v w g (run_behind happens run) last

runs : (xs : List Asked) (s : State) → AllAskable xs → Run s (course xs s).events (course xs s).last
runs [] s own = none
runs (x ∷ xs) s own = run_behind (record { lost = refl; called = acts x.ask x.losses s own.0 }) (runs xs (after_asked x s) own.1)

-- an act tells what was asked
ask_back : (k : Ask) (s : State) → ask_in (act_of k s) ≡ k
ask_back (Begin m o) s = refl
ask_back Serve s = refl
ask_back Hear s = refl
ask_back Tick s = refl
ask_back (Settle k buffer) s = refl

asked : (xs : List Asked) (s : State) → map asked_in (course xs s).events ≡ xs
asked [] s = refl
asked (x ∷ xs) s = rw (asked xs (after_asked x s), ask_back x.ask s) refl

-- what happens can be asked, and comes of what was asked

can_ask : (a : Act) (fs : List Frame) (x : Losses) (s t : State) → Acts a fs x s t → Askable (ask_in a)
can_ask (act.Begin m o r) fs x s t c = c.0
can_ask (act.Serve r) fs x s t c = tt
can_ask (act.Hear r) fs x s t c = tt
can_ask (act.Tick r) fs x s t c = tt
can_ask (act.Settle k buffer r after) fs x s t c = tt

record ComesOf (e : Event) (s t : State) : Type 0 where
  event : event_of (asked_in e) s ≡ e
  last : after_asked (asked_in e) s ≡ t

comes : (a : Act) (lost : Bool) (fs : List Frame) (x : Losses) (s t : State) → lost ≡ s.line.lost → Acts a fs x s t → ComesOf (record { act = a; lost = lost; sent = fs; losses = x }) s t
comes (act.Begin m o r) lost fs x s t is c = record { event = rw (is, c.1, c.2) refl; last = sym c.3 }
comes (act.Serve r) lost fs x s t is c = record { event = rw (is, c.0, c.1) refl; last = sym c.2 }
comes (act.Hear r) lost fs x s t is c = record { event = rw (is, c.0, c.1) refl; last = sym c.2 }
comes (act.Tick r) lost fs x s t is c = record { event = rw (is, c.0, c.1) refl; last = sym c.2 }
comes (act.Settle k buffer r after) lost fs x s t is c = record { event = rw (is, c.0, c.1, c.2) refl; last = sym c.3 }

all_askable_more : (xs : List Asked) (x : Asked) → AllAskable xs → Askable x.ask → AllAskable (xs ++ x ∷ [])
all_askable_more [] x all one = (one, tt)
all_askable_more (y ∷ xs) x all one = (all.0, all_askable_more xs x all.1 one)

askable : (s : State) (es : List Event) (t : State) → Run s es t → AllAskable (map asked_in es)
askable s es t none = tt
askable s _ t (more es u v e run h) = rw (map-append asked_in es (e ∷ [])) (all_askable_more (map asked_in es) (asked_in e) (askable s es u run) (can_ask e.act e.sent e.losses u v h.called))

-- one more behind others
course_more : (xs : List Asked) (x : Asked) (s : State) → let before = course xs s in course (xs ++ x ∷ []) s ≡ record { events = before.events ++ event_of x before.last ∷ []; last = after_asked x before.last }
course_more [] x s = refl
course_more (y ∷ xs) x s = rw (course_more xs x (after_asked y s)) refl

courses : (s : State) (es : List Event) (t : State) → Run s es t → course (map asked_in es) s ≡ record { events = es; last = t }
courses s es t none = refl
courses s _ t (more es u v e run h) =
    let before = courses s es u run in
    let comes = comes e.act e.lost e.sent e.losses u v h.lost h.called in
    rw (map-append asked_in es (e ∷ []), course_more (map asked_in es) (asked_in e) s, before, comes.event, comes.last) refl

pub runs_are_courses : RunsAreCourses
runs_are_courses = record { runs = runs; asked = asked; askable = askable; courses = courses }
