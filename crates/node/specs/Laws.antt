-- What follows for every node and dictionary from the definitions of steps and ticks, in the words of one who uses them.
-- A law speaks of any dictionary d, any node s, and any frame f taken or none where none waited.
use Rattle.std.specs.Prelude.{◌≡◌, ℕ, zero, suc, ◌+◌, ◌%◌, ◌<◌, Bool, true, false, ◌⊎◌, List, Some, None, Option, ◌≢◌}
use Rattle.wire.specs.declared.multiplexor.Multiplexor.{Multiplexor}
use Rattle.wire.specs.declared.abort_code.AbortCode.{AbortCode}
use Rattle.wire.specs.declared.abort_code.AbortCode.TheVariants.{UnknownCommand, LengthTooHigh, TimedOut}
use Rattle.wire.specs.declared.frame.Frame.{Frame}
use Rattle.wire.specs.Frames.{request_identifier}
use Rattle.sdo.specs.Answers as answer
use Rattle.sdo.specs.Fields.{b}
use Rattle.sdo.specs.Requests.{Request, request_in}
use Rattle.sdo.specs.Requests as request
use Rattle.dictionary.specs.Entries.{Entry, put}
use Rattle.dictionary.specs.Verdicts.{write_verdict}
use Rattle.node.specs.declared.block_start.BlockStart.{BlockStart}
use Rattle.node.specs.declared.served.Served.TheVariants.{Committed}
use Rattle.node.specs.States.{State, Activity, Idle, Download, Upload, BlockDownload, BlockEnd, is_idle, named}
use Rattle.node.specs.Steps.{Step, step, ended, dropped, refused}
use Rattle.node.specs.Nodes.{dictionary_by, state_after, tick}

-- the dictionary and the node afterwards
abbrev pub dictionary_after : List Entry → State → Option Frame → List Entry
dictionary_after d s f = dictionary_by (step d s f).set d

abbrev pub node_after : List Entry → State → Option Frame → State
node_after d s f = state_after f (step d s f) s

-- a commit: a value on which there was no verdict is set at a multiplexor, and nothing else; it is counted once, and the transfer is over
pub record Commits (d : List Entry) (s : State) (f : Option Frame) : Type 0 where
  pub multiplexor : Multiplexor
  pub value : List ℕ
  pub undisputed : write_verdict d multiplexor value ≡ None
  pub set : dictionary_after d s f ≡ put multiplexor value d
  pub counted : (node_after d s f).commits ≡ (s.commits + 1) % 65536
  pub over : (node_after d s f).activity ≡ Idle

-- what serve tells as committed is one
abbrev pub CommitsTold : Type 0
CommitsTold = (d : List Entry) (s : State) (f : Option Frame) → (step d s f).served ≡ Committed → Commits d s f

-- any other serve leaves the dictionary and the count
pub record Leaves (d : List Entry) (s : State) (f : Option Frame) : Type 0 where
  pub dictionary : dictionary_after d s f ≡ d
  pub count : (node_after d s f).commits ≡ s.commits

abbrev pub OthersLeave : Type 0
OthersLeave = (d : List Entry) (s : State) (f : Option Frame) → ((step d s f).served ≢ Committed) → Leaves d s f

-- and so does a tick, which knows no dictionary
abbrev pub TicksLeave : Type 0
TicksLeave = (s : State) → (tick s).next.commits ≡ s.commits

-- each abort that is sent leaves the node idle
abbrev pub AbortsLeaveIdle : Type 0
AbortsLeaveIdle = (d : List Entry) (s : State) (f : Option Frame) (m : Multiplexor) (c : AbortCode) → (step d s f).reply ≡ Some (answer.Abort m c) → (node_after d s f).activity ≡ Idle

-- a frame is for a node by its identifier
abbrev pub IsFor : Frame → State → Type 0
IsFor f s = f.identifier.number ≡ (request_identifier s.number).number

-- any other is dropped
abbrev pub ForeignDropped : Type 0
ForeignDropped = (d : List Entry) (s : State) (f : Frame) → (IsFor f s → ⊥) → step d s (Some f) ≡ dropped s.activity

-- block segments come in
abbrev pub in_block : Activity → Bool
in_block Idle = false
in_block (Download w u v) = false
in_block (Upload m u v) = false
in_block (BlockDownload r v) = true
in_block (BlockEnd b v) = false

-- a request starts a transfer
abbrev pub is_start : Request → Bool
is_start (request.InitiateDownload m how) = true
is_start (request.DownloadSegment u w last) = false
is_start (request.InitiateUpload m) = true
is_start (request.UploadSegment u) = false
is_start (request.InitiateBlockDownload m c size) = true
is_start (request.EndBlockDownload unused k) = false
is_start (request.Abort m c) = false

abbrev pub is_abort : Request → Bool
is_abort (request.InitiateDownload m how) = false
is_abort (request.DownloadSegment u w last) = false
is_abort (request.InitiateUpload m) = false
is_abort (request.UploadSegment u) = false
is_abort (request.InitiateBlockDownload m c size) = false
is_abort (request.EndBlockDownload unused k) = false
is_abort (request.Abort m c) = true

-- the one request that a transfer awaits: the next segment of a write, that of a read, the end of a block write
abbrev pub awaits : Activity → Request → Bool
awaits Idle q = false
awaits (Download w u v) (request.InitiateDownload n how) = false
awaits (Download w u v) (request.DownloadSegment t x last) = true
awaits (Download w u v) (request.InitiateUpload n) = false
awaits (Download w u v) (request.UploadSegment t) = false
awaits (Download w u v) (request.InitiateBlockDownload n c z) = false
awaits (Download w u v) (request.EndBlockDownload unused k) = false
awaits (Download w u v) (request.Abort n c) = false
awaits (Upload m u v) (request.InitiateDownload n how) = false
awaits (Upload m u v) (request.DownloadSegment t x last) = false
awaits (Upload m u v) (request.InitiateUpload n) = false
awaits (Upload m u v) (request.UploadSegment t) = true
awaits (Upload m u v) (request.InitiateBlockDownload n c z) = false
awaits (Upload m u v) (request.EndBlockDownload unused k) = false
awaits (Upload m u v) (request.Abort n c) = false
awaits (BlockDownload r v) q = false
awaits (BlockEnd b v) (request.InitiateDownload n how) = false
awaits (BlockEnd b v) (request.DownloadSegment t x last) = false
awaits (BlockEnd b v) (request.InitiateUpload n) = false
awaits (BlockEnd b v) (request.UploadSegment t) = false
awaits (BlockEnd b v) (request.InitiateBlockDownload n c z) = false
awaits (BlockEnd b v) (request.EndBlockDownload unused k) = true
awaits (BlockEnd b v) (request.Abort n c) = false

-- a frame for a node that is not in block reception, with what it asks if that is known
pub record Asks (s : State) (f : Frame) (q : Option Request) : Type 0 where
  pub own : IsFor f s
  pub elsewhere : in_block s.activity ≡ false
  pub said : request_in f.bytes ≡ q

-- a node without its transfer
abbrev pub idled : State → State
idled s = record s { activity = Idle }

-- a start goes as at an idle node: it replaces a transfer
abbrev pub StartsReplace : Type 0
StartsReplace = (d : List Entry) (s : State) (f : Frame) (q : Request) → Asks s f (Some q) → is_start q ≡ true → step d s (Some f) ≡ step d (idled s) (Some f)

-- an abort is dropped at an idle node, and ends a transfer without an answer
abbrev pub AbortsEnd : Type 0
AbortsEnd = (d : List Entry) (s : State) (f : Frame) (q : Request) → Asks s f (Some q) → is_abort q ≡ true → (is_idle s.activity ≡ true → step d s (Some f) ≡ dropped Idle) × (is_idle s.activity ≡ false → step d s (Some f) ≡ ended)

-- anything else that is not awaited gets abort 0504 0001, which names the transfer's multiplexor, or zeros without one
abbrev pub OthersRefused : Type 0
OthersRefused = (d : List Entry) (s : State) (f : Frame) (q : Request) → Asks s f (Some q) → is_start q ≡ false → is_abort q ≡ false → awaits s.activity q ≡ false → step d s (Some f) ≡ refused (named s.activity) UnknownCommand

abbrev pub UnknownRefused : Type 0
UnknownRefused = (d : List Entry) (s : State) (f : Frame) → Asks s f None → step d s (Some f) ≡ refused (named s.activity) UnknownCommand

-- in block reception exactly b0 = 0x80 is an abort
abbrev pub BlockAborted : Type 0
BlockAborted = (d : List Entry) (s : State) (f : Frame) → IsFor f s → in_block s.activity ≡ true → b 0 f.bytes ≡ 0x80 → step d s (Some f) ≡ ended

-- what the start of a block write said that is not closed yet
abbrev pub begun_by : Activity → Option BlockStart
begun_by Idle = None
begun_by (Download w u v) = None
begun_by (Upload m u v) = None
begun_by (BlockDownload r v) = Some r.start
begun_by (BlockEnd w v) = Some w

-- every other frame leaves the node in its block write, whatever is wrong with it, but that a segment too many is told at the end of a sub-block
abbrev pub Stays : BlockStart → Step → Type 0
Stays w p = (begun_by p.next ≡ Some w) ⊎ (p ≡ refused w.download.multiplexor LengthTooHigh)

abbrev pub BlockStays : Type 0
BlockStays = (d : List Entry) (s : State) (f : Frame) (w : BlockStart) → in_block s.activity ≡ true → begun_by s.activity ≡ Some w → (b 0 f.bytes ≢ 0x80) → Stays w (step d s (Some f))

-- some ticks, one after the other
abbrev pub passed : ℕ → State → State
passed zero s = s
passed (suc n) s = (tick (passed n s)).next

-- a frame that is taken restarts the time; a serve that finds none changes nothing
abbrev pub FramesRestart : Type 0
FramesRestart = (d : List Entry) (s : State) (f : Frame) → (node_after d s (Some f)).ticks ≡ 0

abbrev pub NoneChangesNothing : Type 0
NoneChangesNothing = (d : List Entry) (s : State) → (node_after d s None ≡ s) × (dictionary_after d s None ≡ d)

-- a busy node whose time starts says nothing in 24 ticks and keeps its transfer; in the 25th it sends abort 0504 0000 and is idle
pub record RunsOut (s : State) : Type 0 where
  pub silent : (n : ℕ) → n < 24 → (tick (passed n s)).reply ≡ None
  pub busy : (n : ℕ) → n < 25 → (passed n s).activity ≡ s.activity
  pub abort : (tick (passed 24 s)).reply ≡ Some (answer.Abort (named s.activity) TimedOut)
  pub over : (passed 25 s).activity ≡ Idle

abbrev pub TimeRunsOut : Type 0
TimeRunsOut = (s : State) → is_idle s.activity ≡ false → s.ticks ≡ 0 → RunsOut s
