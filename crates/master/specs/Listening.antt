-- One who listens to a transfer: hears each frame that the master sends and each that it takes, knows the node's number,
-- and notes how far the segments went, whether the value was whole, and the abort. A failure tells what was noted.
use Rattle.std.specs.Prelude.{◌≡◌, ℕ, ◌+◌, min, max, Bool, true, false, cond, ◌&&◌, ◌||◌, List, [], ◌∷◌, ◌++◌, map, Some, None, Ok, Err, Option, ◌==◌}
use Rattle.std.specs.Option.{option_map, option_or}
use Rattle.wire.specs.declared.abort_code.AbortCode.{AbortCode}
use Rattle.wire.specs.declared.frame.Frame.{Frame}
use Rattle.wire.specs.declared.multiplexor.Multiplexor.{Multiplexor}
use Rattle.wire.specs.declared.node_number.NodeNumber.{NodeNumber}
use Rattle.wire.specs.Frames.{request_identifier, answer_identifier}
use Rattle.sdo.specs.Requests.{Request, request_in, completes}
use Rattle.sdo.specs.Requests as request
use Rattle.sdo.specs.BlockRequests.{BlockRequest, block_request_in}
use Rattle.sdo.specs.BlockRequests as block
use Rattle.sdo.specs.Answers.{Answer, answer_in}
use Rattle.sdo.specs.Answers as answer
use Rattle.master.specs.declared.phase.Phase.TheVariants.{Over}
use Rattle.master.specs.declared.phase.Aborted.{Aborted}
use Rattle.master.specs.declared.phase.Finder.{Finder}
use Rattle.master.specs.declared.phase.Finder.TheVariants.{Master, Node}
use Rattle.master.specs.States.{State}
use Rattle.master.specs.Calls.{Order, Started, begin}
use Rattle.master.specs.Runs.{Move, Hear, after, sent_in, begins}

-- a request that carries a segment, or asks for one
abbrev pub is_segment : Request → Bool
is_segment (request.DownloadSegment t v last) = true
is_segment (request.UploadSegment t) = true
is_segment q = false

-- what comes next from the master: a request, or in a block write a segment,
-- with how many segments of the value were acknowledged before it, and whether the last one of the value was sent
pub data Coming : Type 0 where
  Requests : Coming
  Segments : ℕ → Bool → Coming

-- an abort: its code, and who sent it
pub record Abort : Type 0 where
  pub code : AbortCode
  pub sender : Finder

pub record Notes : Type 0 where
  pub coming : Coming
  -- the greatest number, within the value, of a segment that was sent or asked for; 0 without one
  pub highest : ℕ
  -- a request was sent with which the value was whole
  pub complete : Bool
  -- the first abort
  pub abort : Option Abort

-- before the start
abbrev pub blank : Notes
blank = record { coming = Requests; highest = 0; complete = false; abort = None }

-- A request: behind the start of a block write come segments. Of the segments in requests none is repeated, so each has the number behind the one before it.

abbrev pub coming_after : Request → Coming
coming_after (request.InitiateBlockDownload m c size) = Segments 0 false
coming_after q = Requests

abbrev pub abort_sent : Request → Option Abort
abort_sent (request.Abort m c) = Some (record { code = c; sender = Master })
abort_sent q = None

abbrev pub after_request : Notes → Option Request → Notes
after_request w None = w
after_request w (Some q) = record {
  coming = coming_after q;
  highest = cond (is_segment q) (w.highest + 1) w.highest;
  complete = completes q || w.complete;
  abort = option_or w.abort (abort_sent q);
}

-- A segment of a block write: its number counts from those that were acknowledged.

abbrev pub after_block : Notes → ℕ → Bool → BlockRequest → Notes
after_block w acknowledged ended (block.Segment last k x) = record w { coming = Segments acknowledged (last || ended); highest = max w.highest (acknowledged + k) }
after_block w acknowledged ended (block.Abort m c) = record w { abort = option_or w.abort (Some (record { code = c; sender = Master })) }

-- the bytes of a frame that the master sends
abbrev pub after_bytes : Coming → Notes → List ℕ → Notes
after_bytes Requests w bytes = after_request w (request_in bytes)
after_bytes (Segments acknowledged ended) w bytes = after_block w acknowledged ended (block_request_in bytes)

-- An answer: only an acknowledgement in a block write changes what comes. Where the last segment was sent and all are acknowledged a request comes again.

abbrev pub coming_behind : Coming → ℕ → Option Answer → Coming
coming_behind (Segments acknowledged ended) highest (Some (answer.AcknowledgeBlock k n)) = cond (ended && acknowledged + k == highest) Requests (Segments (acknowledged + k) ended)
coming_behind c highest o = c

abbrev pub abort_taken : Option Answer → Option Abort
abort_taken (Some (answer.Abort m c)) = Some (record { code = c; sender = Node })
abort_taken o = None

abbrev pub after_answer : Notes → Option Answer → Notes
after_answer w o = record w { coming = coming_behind w.coming w.highest o; abort = option_or w.abort (abort_taken o) }

-- A frame that the master sends, or one that it takes. Any without the identifier of its direction is let go.

pub data Passed : Type 0 where
  Sent : Frame → Passed
  Taken : Frame → Passed

abbrev pub noted : NodeNumber → Notes → Passed → Notes
noted n w (Sent f) = cond (f.identifier.number == (request_identifier n).number) (after_bytes w.coming w f.bytes) w
noted n w (Taken f) = cond (f.identifier.number == (answer_identifier n).number) (after_answer w (answer_in f.bytes)) w

abbrev pub notes_on : NodeNumber → Notes → List Passed → Notes
notes_on n w [] = w
notes_on n w (p ∷ ps) = notes_on n (noted n w p) ps

-- what passes in a call: the frame that is taken, then those that are sent
abbrev pub taken_in : Move → List Passed
taken_in (Hear (Some f)) = Taken f ∷ []
taken_in c = []

abbrev pub passed_in : State → Move → List Passed
passed_in s c = taken_in c ++ map Sent (sent_in s c)

-- calls of which none begins a transfer: what passed in them, and the master afterwards
pub data Traffic (s : State) : List Passed → State → Type 0 where
  none : Traffic s [] s
  more : (ps : List Passed) (t : State) (c : Move) → Traffic s ps t → begins t c ≡ false → Traffic s (ps ++ passed_in t c) (after t c)

-- The failure that the notes tell: that of the abort. The value may be set where it was whole, unless the node sent the abort. The number of the segment has 16 bits.

abbrev pub by_master : Finder → Bool
by_master Master = true
by_master Node = false

abbrev pub failure_by : Notes → Abort → Aborted
failure_by w a = record { code = a.code; finder = a.sender; may_be_set = by_master a.sender && w.complete; segment = min w.highest 65535 }

abbrev pub failure_in : Notes → Option Aborted
failure_in w = option_map (failure_by w) w.abort

-- from the begin of a transfer on, whatever is heard and whenever it fails, its failure is the one that the notes tell
abbrev pub FailuresTold : Type 0
FailuresTold =
    (s t : State) (m : Multiplexor) (o : Order) (x : Started) (ps : List Passed) (f : Aborted)
    → (begin s m o).answer ≡ Ok x → Traffic (begin s m o).next ps t → t.phase ≡ Over (Err f) → failure_in (notes_on s.node blank (map Sent x.sending.frames ++ ps)) ≡ Some f
