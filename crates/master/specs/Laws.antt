-- What holds of every master, whatever it hears and whenever it is called.
use Rattle.std.specs.Prelude.{◌≡◌, ℕ, ◌+◌, ◌<◌, ◌≤◌, Bool, true, false, cond, List, [], ◌++◌, length, Some, Ok, Err, Option, ◌==◌, ◌≢◌}
use Rattle.wire.specs.declared.frame.Frame.{Frame}
use Rattle.wire.specs.declared.multiplexor.Multiplexor.{Multiplexor}
use Rattle.wire.specs.declared.abort_code.AbortCode.{AbortCode}
use Rattle.wire.specs.Multiplexors.{same}
use Rattle.wire.specs.Frames.{answer_identifier}
use Rattle.sdo.specs.declared.toggle.Toggle.{Toggle}
use Rattle.sdo.specs.Transfers.{Expedited}
use Rattle.sdo.specs.Answers.{Answer, answer_in}
use Rattle.sdo.specs.Answers as answer
use Rattle.master.specs.declared.heard.Heard.TheVariants as heard
use Rattle.master.specs.declared.method.Method.{Method}
use Rattle.master.specs.declared.phase.Phase.{Phase}
use Rattle.master.specs.declared.phase.Phase.TheVariants.{Open, Over}
use Rattle.master.specs.declared.phase.Awaiting.{Awaiting}
use Rattle.master.specs.declared.phase.Awaiting.TheVariants as awaiting
use Rattle.master.specs.declared.phase.Aborted.{Aborted}
use Rattle.master.specs.declared.phase.Finder.TheVariants.{Node}
use Rattle.master.specs.declared.refusal.BeginRefusal.TheVariants.{NotCleared, Resting}
use Rattle.master.specs.Values.{is_last}
use Rattle.master.specs.States.{State}
use Rattle.master.specs.Steps.{hear}
use Rattle.master.specs.Calls.{Order, Write, Started, not_cleared, begin, tick}
use Rattle.master.specs.Runs.{Move, after, Run}

abbrev pub is_open : Phase → Bool
is_open (Open w) = true
is_open p = false

-- from the begin of a write to the next begin the master sends at most 1,300 frames, its start and its abort too
abbrev pub RepeatsAreBounded : Type 0
RepeatsAreBounded = (s t : State) (m : Multiplexor) (how : Method) (v : List ℕ) (x : Started) (fs : List Frame) (n : ℕ) → (begin s m (Write how v)).answer ≡ Ok x → Run (begin s m (Write how v)).next fs n t → length (x.sending.frames ++ fs) ≤ 1300

-- a master that has just sent: a start, or what an answer brought about
pub data JustSent : State → Type 0 where
  by_begin : (s : State) (m : Multiplexor) (o : Order) (x : Started) → (begin s m o).answer ≡ Ok x → JustSent (begin s m o).next
  by_hear : (s : State) (f : Option Frame) → (hear s f).heard ≡ heard.Sent → JustSent (hear s f).next

-- where nothing was sent since, a tick ends an open transfer exactly if it is the tenth
abbrev pub TenthTickEnds : Type 0
TenthTickEnds = (s t : State) (fs : List Frame) (n : ℕ) → JustSent s → Run s fs n t → fs ≡ [] → is_open t.phase ≡ true → (tick t).ended ≡ (n + 1 == 10)

-- and where none is open, no tick ends one
abbrev pub OnlyOpenTransfersEnd : Type 0
OnlyOpenTransfersEnd = (t : State) → is_open t.phase ≡ false → (tick t).ended ≡ false

-- a master whose open transfer has just failed
pub data JustFailed : State → Type 0 where
  by_call : (s : State) (w : Awaiting) (c : Move) (f : Aborted) → s.phase ≡ Open w → (after s c).phase ≡ Over (Err f) → JustFailed (after s c)

-- for the next 30 ticks it begins nothing, and resting is the reason once the transfer is cleared; the 30th quiets the line
pub record Rests (n : ℕ) (t : State) : Type 0 where
  pub refuses : (m : Multiplexor) (o : Order) → n < 30 → (begin t m o).answer ≡ cond (not_cleared t.phase) (Err NotCleared) (Err Resting)
  pub quiets : n < 30 → (tick t).sending ≡ record { quiet = (n + 1 == 30); frames = [] }
  pub ends : (m : Multiplexor) (o : Order) → 30 ≤ n → (begin t m o).answer ≢ Err Resting

abbrev pub RestsForThirtyTicks : Type 0
RestsForThirtyTicks = (s t : State) (fs : List Frame) (n : ℕ) → JustFailed s → Run s fs n t → Rests n t

-- a value that was read in segments: it has 1 to 1,024 bytes, and as many as were announced
pub record ReadWhole (size : Option ℕ) (v : List ℕ) : Type 0 where
  pub some : 1 ≤ length v
  pub no_more : length v ≤ 1024
  pub announced : (n : ℕ) → size ≡ Some n → length v ≡ n

-- the last answer of a transfer, by what is awaited, and the value that is then written or read
pub data Finishes (s : State) : Awaiting → Answer → List ℕ → Type 0 where
  written_at_once : (m : Multiplexor) → same m s.multiplexor ≡ true → Finishes s awaiting.ExpeditedDownload (answer.InitiateDownload m) s.value
  last_taken : (t u : Toggle) (k : ℕ) → t ≡ u → is_last s.value k ≡ true → Finishes s (awaiting.DownloadSegment t k) (answer.DownloadSegment u) s.value
  read_at_once : (m : Multiplexor) (v : List ℕ) → same m s.multiplexor ≡ true → Finishes s awaiting.InitiateUpload (answer.InitiateUpload m (Expedited v)) v
  last_given : (t u : Toggle) (size : Option ℕ) (x v : List ℕ) → t ≡ u → v ≡ s.value ++ x → ReadWhole size v → Finishes s (awaiting.UploadSegment t size) (answer.UploadSegment u x true) v
  block_closed : Finishes s awaiting.EndBlockDownload answer.EndBlockDownload s.value

-- a frame from the node that has the last answer of the open transfer, whose value is then v
pub record Awaited (s : State) (g : Frame) (v : List ℕ) : Type 0 where
  pub waits : Awaiting
  pub says : Answer
  pub open_for : s.phase ≡ Open waits
  pub from_node : g.identifier.number ≡ (answer_identifier s.node).number
  pub in_bytes : answer_in g.bytes ≡ Some says
  pub last : Finishes s waits says v

-- success is told only where such a frame was heard
abbrev pub SuccessIsAnswered : Type 0
SuccessIsAnswered = (s : State) (f : Option Frame) → (hear s f).heard ≡ heard.Over → (hear s f).next.phase ≡ Over (Ok tt) → (g : Frame) × ((f ≡ Some g) × Awaited s g (hear s f).next.value)

-- what an abort that was heard comes to: the transfer fails by its code, and nothing is sent, but the line is quieted
pub record EndedBy (s : State) (c : AbortCode) (f : Option Frame) : Type 0 where
  pub over : (hear s f).heard ≡ heard.Over
  pub failure : (hear s f).next.phase ≡ Over (Err (record { code = c; finder = Node; may_be_set = false; segment = s.highest }))
  pub sending : (hear s f).sending ≡ record { quiet = true; frames = [] }

abbrev pub AbortHeardEnds : Type 0
AbortHeardEnds = (s : State) (w : Awaiting) (g : Frame) (m : Multiplexor) (c : AbortCode) → s.phase ≡ Open w → g.identifier.number ≡ (answer_identifier s.node).number → answer_in g.bytes ≡ Some (answer.Abort m c) → EndedBy s c (Some g)
