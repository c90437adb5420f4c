-- A run computed: from calls with their arguments, and what the line loses in each, to their events and the bench afterwards.
-- The same calls with the same losses have the same course.
use Rattle.std.specs.Prelude.{◌≡◌, ℕ, List, [], ◌∷◌, map}
use Rattle.wire.specs.declared.frame.Frame.{Frame}
use Rattle.wire.specs.declared.multiplexor.Multiplexor.{Multiplexor}
use Rattle.sdo.specs.Fits.{Indexed}
use Rattle.master.specs.Calls.{Order}
use Rattle.bench.specs.Model.Lines.{Losses}
use Rattle.bench.specs.Model.States.{State}
use Rattle.bench.specs.Model.Calls.{begin_answer, begin_step, begin_frames, serve_answer, serve_step, hear_answer, hear_step, hear_frames, tick_answer, tick_step, tick_frames, settle_answer, settle_buffer, settle_step, settle_frames}
use Rattle.bench.specs.Law.Runs as act
use Rattle.bench.specs.Law.Runs.{Act, Event, event, Run}

-- what is asked of a bench: a call with its arguments
pub data Ask : Type 0 where
  Begin : Multiplexor → Order → Ask
  Serve : Ask
  Hear : Ask
  Tick : Ask
  Settle : ℕ → List ℕ → Ask

-- what is asked, and what the line then loses
pub record Asked : Type 0 where
  pub ask : Ask
  pub losses : Losses

-- the act that it becomes, the frames that the master sends, and the bench afterwards

abbrev pub act_of : Ask → State → Act
act_of (Begin m o) s = act.Begin m o (begin_answer m o s)
act_of Serve s = act.Serve (serve_answer s)
act_of Hear s = act.Hear (hear_answer s)
act_of Tick s = act.Tick (tick_answer s)
act_of (Settle k buffer) s = act.Settle k buffer (settle_answer k buffer s) (settle_buffer k buffer s)

abbrev pub frames_of : Ask → State → List Frame
frames_of (Begin m o) s = begin_frames m o s
frames_of Serve s = []
frames_of Hear s = hear_frames s
frames_of Tick s = tick_frames s
frames_of (Settle k buffer) s = settle_frames k buffer s

abbrev pub after_ask : Ask → Losses → State → State
after_ask (Begin m o) x s = begin_step m o x.of_master s
after_ask Serve x s = serve_step x.of_node s
after_ask Hear x s = hear_step x.of_master s
after_ask Tick x s = tick_step x.of_master x.of_node s
after_ask (Settle k buffer) x s = settle_step k buffer x.of_master s

abbrev pub event_of : Asked → State → Event
event_of a s = event (act_of a.ask s) (frames_of a.ask s) a.losses s

abbrev pub after_asked : Asked → State → State
after_asked a s = after_ask a.ask a.losses s

-- what comes of some calls and losses: all events in their order, and the bench at the end
pub record Course : Type 0 where
  pub events : List Event
  pub last : State

abbrev pub course : List Asked → State → Course
course [] s = record { events = []; last = s }
course (x ∷ xs) s = let rest = course xs (after_asked x s) in record rest { events = event_of x s ∷ rest.events }

-- what a run tells of its calls and losses

abbrev pub ask_in : Act → Ask
ask_in (act.Begin m o r) = Begin m o
ask_in (act.Serve r) = Serve
ask_in (act.Hear r) = Hear
ask_in (act.Tick r) = Tick
ask_in (act.Settle k buffer r after) = Settle k buffer

abbrev pub asked_in : Event → Asked
asked_in e = record { ask = ask_in e.act; losses = e.losses }

-- an index has 16 bits
abbrev pub Askable : Ask → Type 0
Askable (Begin m o) = Indexed m
Askable Serve = Unit {0}
Askable Hear = Unit {0}
Askable Tick = Unit {0}
Askable (Settle k buffer) = Unit {0}

abbrev pub AllAskable : List Asked → Type 0
AllAskable [] = Unit {0}
AllAskable (x ∷ xs) = Askable x.ask × AllAskable xs

-- Runs are courses: the course of any calls and losses is a run, which tells of these, and each run is the course of those that it tells of.
pub record RunsAreCourses : Type 0 where
  pub runs : (xs : List Asked) (s : State) → AllAskable xs → Run s (course xs s).events (course xs s).last
  pub asked : (xs : List Asked) (s : State) → map asked_in (course xs s).events ≡ xs
  pub askable : (s : State) (es : List Event) (t : State) → Run s es t → AllAskable (map asked_in es)
  pub courses : (s : State) (es : List Event) (t : State) → Run s es t → course (map asked_in es) s ≡ record { events = es; last = t }
