-- Events behind others: their acts, the run that they are, and the law.
use Rattle.std.proofs.Common.{List, [], ◌∷◌, ◌++◌, map, sym, subst, append_assoc}
use Rattle.std.proofs.lemmas.List.{append-nil, map-append}
use Rattle.wire.specs.declared.frame.Frame.{Frame}
use Rattle.bench.specs.Model.States.{State}
use Rattle.bench.specs.Law.Runs.{Act, Event, event, Run, none, more}
use Rattle.bench.proofs.Law.Runs.{Happened, happens, law_stands}
use Rattle.rounds.specs.Rounds.{KeepsLawOver, Went}

abbrev acts_of : List Event → List Act
acts_of es = map (λ (e : Event). e.act) es

runs_on : (s t u : State) (es fs : List Event) → Run s es t → Run t fs u → Run s (es ++ fs) u
runs_on s t u es fs run none = subst (λ xs. Run s xs t) (sym (append-nil es)) run
runs_on s t u es fs run (more gs v w e then h) = subst (λ xs. Run s xs w) (append_assoc es gs (e ∷ [])) (more (es ++ gs) v w e (runs_on s t v es gs run then) h)

-- the law holds with whatever has happened
law_kept : (s t : State) (es : List Event) → Run s es t → KeepsLawOver es s t
law_kept s t es run d lawful n b past before =
    let all = runs_on _ s t past es before run in
    record { run = all; law = law_stands d lawful n b (past ++ es) t all }

pub went : (told : List Act → Type 0) (s t : State) (es : List Event) → told (acts_of es) → Run s es t → Went told s t
went told s t es acts run = record { events = es; acts = acts; run = run; law = law_kept s t es run }

pub went_nowhere : (told : List Act → Type 0) (s : State) → told [] → Went told s s
went_nowhere told s acts = went told s s [] acts none

pub went_on : (first then both : List Act → Type 0) (s t u : State) → ((xs ys : List Act) → first xs → then ys → both (xs ++ ys)) → Went first s t → Went then t u → Went both s u
went_on first then both s t u joins w x =
    went both s u (w.events ++ x.events)
    (subst both (sym (map-append (λ (e : Event). e.act) w.events x.events)) (joins (acts_of w.events) (acts_of x.events) w.acts x.acts))
    (runs_on s t u w.events x.events w.run x.run)

-- one act more
pub went_by : (first then : List Act → Type 0) (a : Act) (fs : List Frame) (s t u : State) → ((xs : List Act) → first xs → then (xs ++ a ∷ [])) → Went first s t → Happened a fs t u → Went then s u
went_by first then a fs s t u joins w h =
    let e = event a fs h.0 t in
    went then s u (w.events ++ e ∷ [])
    (subst then (sym (map-append (λ (x : Event). x.act) w.events (e ∷ []))) (joins (acts_of w.events) w.acts))
    (more w.events t u e w.run (happens a fs t u h))

pub went_as : (first then : List Act → Type 0) (s t : State) → ((xs : List Act) → first xs → then xs) → Went first s t → Went then s t
went_as first then s t is w = record { events = w.events; acts = is (acts_of w.events) w.acts; run = w.run; law = w.law }
