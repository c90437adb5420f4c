-- Runs of a master: its calls one after the other, with the frames that it sends in them and the number of ticks among them.
use Rattle.std.specs.Prelude.{◌≡◌, ℕ, ◌+◌, Bool, true, false, List, [], ◌++◌, Ok, Err, Option, Result}
use Rattle.wire.specs.declared.frame.Frame.{Frame}
use Rattle.wire.specs.declared.multiplexor.Multiplexor.{Multiplexor}
use Rattle.master.specs.declared.refusal.BeginRefusal.{BeginRefusal}
use Rattle.master.specs.States.{State, clear}
use Rattle.master.specs.Steps.{hear}
use Rattle.master.specs.Calls.{Order, Started, begin, tick, give_up}

pub data Move : Type 0 where
  Begin : Multiplexor → Order → Move
  Hear : Option Frame → Move
  Tick : Move
  GiveUp : Move
  Clear : Move

abbrev pub after : State → Move → State
after s (Begin m o) = (begin s m o).next
after s (Hear f) = (hear s f).next
after s Tick = (tick s).next
after s GiveUp = (give_up s).next
after s Clear = clear s

-- what a call sends
abbrev pub started_frames : Result Started BeginRefusal → List Frame
started_frames (Ok x) = x.sending.frames
started_frames (Err e) = []

abbrev pub sent_in : State → Move → List Frame
sent_in s (Begin m o) = started_frames (begin s m o).answer
sent_in s (Hear f) = (hear s f).sending.frames
sent_in s Tick = (tick s).sending.frames
sent_in s GiveUp = (give_up s).sending.frames
sent_in s Clear = []

abbrev pub ticks_in : Move → ℕ
ticks_in Tick = 1
ticks_in c = 0

-- whether a call begins a transfer: a refused begin does not
abbrev pub accepted : Result Started BeginRefusal → Bool
accepted (Ok x) = true
accepted (Err e) = false

abbrev pub begins : State → Move → Bool
begins s (Begin m o) = accepted (begin s m o).answer
begins s c = false

-- calls of which none begins a transfer: the frames that were sent, the ticks, and the master afterwards
pub data Run (s : State) : List Frame → ℕ → State → Type 0 where
  none : Run s [] 0 s
  more : (fs : List Frame) (n : ℕ) (t : State) (c : Move) → Run s fs n t → begins t c ≡ false → Run s (fs ++ sent_in t c) (n + ticks_in c) (after t c)
