-- Runs of a bench: its calls one after the other, each with its arguments and its answer.
-- Of each is also told whether the line had lost a frame when the call was made, which frames the master sent in it, and what the line lost of all that was sent.
use Rattle.std.specs.Prelude.{◌≡◌, ℕ, Bool, List, [], ◌∷◌, ◌++◌, Result}
use Rattle.wire.specs.declared.frame.Frame.{Frame}
use Rattle.wire.specs.declared.multiplexor.Multiplexor.{Multiplexor}
use Rattle.sdo.specs.Fits.{Indexed}
use Rattle.master.specs.declared.heard.Heard.{Heard}
use Rattle.master.specs.declared.refusal.BeginRefusal.{BeginRefusal}
use Rattle.master.specs.Calls.{Order}
use Rattle.node.specs.declared.served.Served.{Served}
use Rattle.report.specs.declared.refusal.SettleRefusal.{SettleRefusal}
use Rattle.report.specs.declared.report.Report.{Report}
use Rattle.bench.specs.declared.response.Ticked.{Ticked}
use Rattle.bench.specs.Model.Lines.{Losses}
use Rattle.bench.specs.Model.States.{State}
use Rattle.bench.specs.Model.Calls.{begin_answer, begin_step, begin_frames, serve_answer, serve_step, hear_answer, hear_step, hear_frames, tick_answer, tick_step, tick_frames, settle_answer, settle_buffer, settle_step, settle_frames}

-- an act, which is a call with its arguments and its answer: a transfer begun by its multiplexor and its order, with the number of the ticket;
-- a frame served, a frame heard; a tick that ended a transfer or not; a ticket settled by its number with a buffer, and the buffer afterwards
pub data Act : Type 0 where
  Begin : Multiplexor → Order → Result ℕ BeginRefusal → Act
  Serve : Served → Act
  Hear : Heard → Act
  Tick : Ticked → Act
  Settle : ℕ → List ℕ → Result Report SettleRefusal → List ℕ → Act

pub record Event : Type 0 where
  pub act : Act
  -- the line had lost a frame since it was last quieted, when the call was made
  pub lost : Bool
  -- the frames that the master sent
  pub sent : List Frame
  pub losses : Losses

-- an act on a bench, in which the master sends some frames
abbrev pub event : Act → List Frame → Losses → State → Event
event a fs x s = record { act = a; lost = s.line.lost; sent = fs; losses = x }

-- an act as the bench's contract has it: what it answers, which frames the master sends, and the bench afterwards,
-- by what the line loses; an index has 16 bits
abbrev pub Acts : Act → List Frame → Losses → State → State → Type 0
Acts (Begin m o r) fs x s t = Indexed m × (r ≡ begin_answer m o s) × (fs ≡ begin_frames m o s) × (t ≡ begin_step m o x.of_master s)
Acts (Serve r) fs x s t = (r ≡ serve_answer s) × (fs ≡ []) × (t ≡ serve_step x.of_node s)
Acts (Hear r) fs x s t = (r ≡ hear_answer s) × (fs ≡ hear_frames s) × (t ≡ hear_step x.of_master s)
Acts (Tick r) fs x s t = (r ≡ tick_answer s) × (fs ≡ tick_frames s) × (t ≡ tick_step x.of_master x.of_node s)
Acts (Settle k buffer r after) fs x s t =
    (r ≡ settle_answer k buffer s) × (after ≡ settle_buffer k buffer s) × (fs ≡ settle_frames k buffer s) × (t ≡ settle_step k buffer x.of_master s)

pub record Happens (e : Event) (s t : State) : Type 0 where
  pub lost : e.lost ≡ s.line.lost
  pub called : Acts e.act e.sent e.losses s t

-- what happened from one state of a bench to another
pub data Run (s : State) : List Event → State → Type 0 where
  none : Run s [] s
  more : (es : List Event) (t u : State) (e : Event) → Run s es t → Happens e t u → Run s (es ++ e ∷ []) u
