-- What comes of a frame at a node, state by state and frame by frame.
use Rattle.std.specs.Prelude.{ℕ, ◌+◌, ◌-◌, Bool, true, false, cond, not, ◌||◌, List, [], ◌++◌, length, take, drop, Some, None, Option, ◌==◌, nat_le, nat_lt}
use Rattle.wire.specs.declared.multiplexor.Multiplexor.{Multiplexor}
use Rattle.wire.specs.declared.abort_code.AbortCode.{AbortCode}
use Rattle.wire.specs.declared.abort_code.AbortCode.TheVariants.{UnknownCommand, ToggleNotAlternated, LengthMismatch, LengthTooHigh, CrcError}
use Rattle.wire.specs.declared.frame.Frame.{Frame}
use Rattle.wire.specs.Frames.{request_identifier}
use Rattle.crc.specs.Registers.{crc}
use Rattle.sdo.specs.declared.crc_offer.CrcOffer.{CrcOffer}
use Rattle.sdo.specs.declared.crc_offer.CrcOffer.TheVariants.{Offered, NotOffered}
use Rattle.sdo.specs.declared.toggle.Toggle.{Toggle}
use Rattle.sdo.specs.declared.toggle.Toggle.TheVariants.{Zero}
use Rattle.sdo.specs.Segments.{differs, other, same_toggle}
use Rattle.sdo.specs.FrameData.{fits_expedited}
use Rattle.sdo.specs.Transfers as coming
use Rattle.sdo.specs.Requests.{Request, request_in}
use Rattle.sdo.specs.Requests as request
use Rattle.sdo.specs.BlockRequests.{BlockRequest, block_request_in}
use Rattle.sdo.specs.BlockRequests as block
use Rattle.sdo.specs.Answers.{Answer}
use Rattle.sdo.specs.Answers as answer
use Rattle.dictionary.specs.Entries.{Entry}
use Rattle.dictionary.specs.Verdicts.{start_verdict, write_verdict, read_verdict}
use Rattle.dictionary.specs.Questions.{value_at}
use Rattle.node.specs.declared.block_start.BlockStart.{BlockStart}
use Rattle.node.specs.declared.download_start.DownloadStart.{DownloadStart}
use Rattle.node.specs.declared.reception.Reception.{Reception}
use Rattle.node.specs.declared.served.Served.{Served}
use Rattle.node.specs.declared.served.Served.TheVariants.{NothingWaited, Committed, Aborted, Answered, Dropped, Kept}
use Rattle.node.specs.Buffers.{full}
use Rattle.node.specs.States.{State, Activity, Idle, Download, Upload, BlockDownload, BlockEnd, next_sub_block, is_idle, named}

-- a value that is set at a multiplexor
pub record Setting : Type 0 where
  pub multiplexor : Multiplexor
  pub value : List ℕ

-- what comes of a frame: the transfer afterwards, what serve tells, the node's own message, and the value that is set
pub record Step : Type 0 where
  pub next : Activity
  pub served : Served
  pub reply : Option Answer
  pub set : Option Setting

-- a value is set and answered: the transfer is over
abbrev pub committed : Multiplexor → List ℕ → Answer → Step
committed m v a = record { next = Idle; served = Committed; reply = Some a; set = Some (record { multiplexor = m; value = v }) }

-- nothing is set
abbrev pub turned : Activity → Served → Option Answer → Step
turned t r a = record { next = t; served = r; reply = a; set = None }

-- an abort is sent: the node is idle
abbrev pub refused : Multiplexor → AbortCode → Step
refused m c = turned Idle Aborted (Some (answer.Abort m c))

-- an abort came: the node is idle and says nothing
abbrev pub ended : Step
ended = turned Idle Aborted None

abbrev pub answered : Activity → Answer → Step
answered t a = turned t Answered (Some a)

abbrev pub dropped : Activity → Step
dropped t = turned t Dropped None

abbrev pub kept : Activity → Step
kept t = turned t Kept None

abbrev pub nothing : Activity → Step
nothing t = turned t NothingWaited None

-- a step, unless a verdict speaks against it
abbrev pub unless : Option AbortCode → Multiplexor → Step → Step
unless None m s = s
unless (Some c) m s = refused m c

-- the value is set and answered, unless the dictionary has a verdict on it
abbrev pub commit : List Entry → Multiplexor → List ℕ → Answer → Step
commit d m v a = unless (write_verdict d m v) m (committed m v a)

-- a message that is not awaited
abbrev pub unexpected : Activity → Step
unexpected t = refused (named t) UnknownCommand

-- the start of a write: a value that comes at once is committed, for a longer one its segments are awaited
abbrev pub start_download : List Entry → Multiplexor → coming.Transfer → Step
start_download d m (coming.Expedited v) = commit d m v (answer.InitiateDownload m)
start_download d m (coming.Segmented size) =
    unless (start_verdict d m size) m (answered (Download (record { multiplexor = m; size = size }) Zero []) (answer.InitiateDownload m))

-- the start of a read: a value of up to four bytes goes into the answer, a longer one goes by segments
abbrev pub announced : Multiplexor → List ℕ → Step
announced m v = answered (Upload m Zero v) (answer.InitiateUpload m (coming.Segmented (Some (length v))))

abbrev pub given : Multiplexor → List ℕ → Step
given m v = cond (fits_expedited v) (answered Idle (answer.InitiateUpload m (coming.Expedited v))) (announced m v)

abbrev pub start_upload : List Entry → Multiplexor → Step
start_upload d m = unless (read_verdict d m) m (given m (value_at d m))

-- the start of a block write: the node offers a CRC whatever the master does
abbrev pub block_awaited : ℕ → BlockStart → List ℕ → Step
block_awaited n b v = answered (BlockDownload (next_sub_block b) v) (answer.InitiateBlockDownload b.download.multiplexor Offered n)

abbrev pub start_block : List Entry → ℕ → BlockStart → Step
start_block d n b = unless (start_verdict d b.download.multiplexor b.download.size) b.download.multiplexor (block_awaited n b [])

-- all bytes of a write are there: its announced size is compared, then it is committed
abbrev pub completed : List Entry → DownloadStart → List ℕ → Answer → Step
completed d w v a = cond (differs w.size (length v)) (refused w.multiplexor LengthMismatch) (commit d w.multiplexor v a)

-- a segment of a write, with which there are some bytes: their number is judged, and behind the last segment they are the value
abbrev pub received : List Entry → DownloadStart → Toggle → Bool → List ℕ → Step
received d w t last v =
    cond (nat_lt 1024 (length v)) (refused w.multiplexor LengthTooHigh)
    (cond last (completed d w v (answer.DownloadSegment t))
    (answered (Download w (other t) v) (answer.DownloadSegment t)))

-- its toggle comes first
abbrev pub download_segment : List Entry → Activity → Toggle → List ℕ → Bool → Step
download_segment d Idle t x last = unexpected Idle
download_segment d (Download w u v) t x last = cond (same_toggle t u) (received d w t last (v ++ x)) (refused w.multiplexor ToggleNotAlternated)
download_segment d (Upload m u v) t x last = unexpected (Upload m u v)
download_segment d (BlockDownload r v) t x last = unexpected (BlockDownload r v)
download_segment d (BlockEnd b v) t x last = unexpected (BlockEnd b v)

-- a segment of a read: the next seven bytes, or the last ones, after which the node is idle
abbrev pub next_segment : Multiplexor → Toggle → List ℕ → Step
next_segment m t v =
    cond (nat_le (length v) 7)
    (answered Idle (answer.UploadSegment t v true))
    (answered (Upload m (other t) (drop 7 v)) (answer.UploadSegment t (take 7 v) false))

abbrev pub upload_segment : Activity → Toggle → Step
upload_segment Idle t = unexpected Idle
upload_segment (Download w u v) t = unexpected (Download w u v)
upload_segment (Upload m u v) t = cond (same_toggle t u) (next_segment m t v) (refused m ToggleNotAlternated)
upload_segment (BlockDownload r v) t = unexpected (BlockDownload r v)
upload_segment (BlockEnd b v) t = unexpected (BlockEnd b v)

-- the CRC of a block write's end is wrong; it is compared only where the master offered one
abbrev pub crc_differs : CrcOffer → ℕ → List ℕ → Bool
crc_differs Offered k v = not (k == (crc v))
crc_differs NotOffered k v = false

-- the end of a block write with its bytes: their CRC, then their announced number, then the commit
abbrev pub closed : List Entry → BlockStart → ℕ → List ℕ → Step
closed d b k v = cond (crc_differs b.crc k v) (refused b.download.multiplexor CrcError) (completed d b.download v answer.EndBlockDownload)

-- the bytes of its segments without those that the last one does not use
abbrev pub block_end : List Entry → Activity → ℕ → ℕ → Step
block_end d Idle n k = unexpected Idle
block_end d (Download w u v) n k = unexpected (Download w u v)
block_end d (Upload m u v) n k = unexpected (Upload m u v)
block_end d (BlockDownload r v) n k = unexpected (BlockDownload r v)
block_end d (BlockEnd b v) n k = closed d b k (take (length v - n) v)

-- an abort ends a transfer without an answer; without one it is dropped
abbrev pub aborted : Activity → Step
aborted t = cond (is_idle t) (dropped t) ended

-- a request in any state but while block segments come in: a start replaces a transfer
abbrev pub asked : List Entry → ℕ → Activity → Request → Step
asked d n t (request.InitiateDownload m how) = start_download d m how
asked d n t (request.DownloadSegment u w last) = download_segment d t u w last
asked d n t (request.InitiateUpload m) = start_upload d m
asked d n t (request.UploadSegment u) = upload_segment t u
asked d n t (request.InitiateBlockDownload m c size) = start_block d n (record { download = record { multiplexor = m; size = size }; crc = c })
asked d n t (request.EndBlockDownload unused k) = block_end d t unused k
asked d n t (request.Abort m c) = aborted t

-- bytes in which there is a request, or none that is known
abbrev pub understood : List Entry → ℕ → Activity → Option Request → Step
understood d n t None = unexpected t
understood d n t (Some q) = asked d n t q

-- a segment ends its sub-block where it is the last of all or has the highest number
abbrev pub ends : ℕ → Bool → ℕ → Bool
ends n last k = last || k == n

module _ (n : ℕ) where
  -- the segment that is awaited is kept; at the end of its sub-block its number is acknowledged
  abbrev pub keep : BlockStart → Bool → ℕ → List ℕ → Step
  keep b last k v =
      cond last (answered (BlockEnd b v) (answer.AcknowledgeBlock k n))
      (cond (k == n) (answered (BlockDownload (next_sub_block b) v) (answer.AcknowledgeBlock k n))
      (kept (BlockDownload (record { start = b; expected = k + 1; spoiled = false }) v)))

  module _ (r : Reception) where
    -- another one is dropped; at the end of a sub-block the last number that was kept is acknowledged
    abbrev pub pass_over : List ℕ → Bool → ℕ → Step
    pass_over v last k =
        cond (ends n last k)
        (answered (BlockDownload (next_sub_block r.start) v) (answer.AcknowledgeBlock (r.expected - 1) n))
        (dropped (BlockDownload (record r { spoiled = false }) v))

    -- there was one too many: that is told at the end of the sub-block
    abbrev pub spoil : List ℕ → Bool → ℕ → Step
    spoil v last k = cond (ends n last k) (refused r.start.download.multiplexor LengthTooHigh) (dropped (BlockDownload (record r { spoiled = true }) v))

    -- a block segment
    abbrev pub block_segment : List ℕ → Bool → ℕ → List ℕ → Step
    block_segment v last k x =
        cond r.spoiled (spoil v last k)
        (cond (k == r.expected)
        (cond (full v) (spoil v last k) (keep r.start last k (v ++ x)))
        (pass_over v last k))

    -- a message while block segments come in
    abbrev pub asked_in_block : List ℕ → BlockRequest → Step
    asked_in_block v (block.Segment last k x) = block_segment v last k x
    asked_in_block v (block.Abort m c) = ended

-- a frame's bytes: one reader while block segments come in, another elsewhere
abbrev pub interpreted : List Entry → ℕ → Activity → List ℕ → Step
interpreted d n Idle bytes = understood d n Idle (request_in bytes)
interpreted d n (Download w u v) bytes = understood d n (Download w u v) (request_in bytes)
interpreted d n (Upload m u v) bytes = understood d n (Upload m u v) (request_in bytes)
interpreted d n (BlockDownload r v) bytes = asked_in_block n r v (block_request_in bytes)
interpreted d n (BlockEnd b v) bytes = understood d n (BlockEnd b v) (request_in bytes)

-- a frame with another identifier than the node's is dropped
abbrev pub taken : List Entry → State → Frame → Step
taken d s f =
    cond (f.identifier.number == (request_identifier s.number).number)
    (interpreted d s.block_size.number s.activity f.bytes)
    (dropped s.activity)

-- what comes of a frame, or of none where none waited
unfoldable pub step : List Entry → State → Option Frame → Step
step d s None = nothing s.activity
step d s (Some f) = taken d s f
