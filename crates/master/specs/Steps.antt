-- What comes of a frame at a master, by the answer that it awaits (CiA 301, 7.2.4.3: each protocol's figure, on the client's side).
use Rattle.std.specs.Prelude.{ℕ, ◌+◌, ◌-◌, min, max, Bool, true, false, cond, List, [], ◌∷◌, ◌++◌, length, Some, None, Option, Ok, Err, ◌==◌, nat_le, nat_lt}
use Rattle.wire.specs.declared.multiplexor.Multiplexor.{Multiplexor}
use Rattle.wire.specs.declared.abort_code.AbortCode.{AbortCode}
use Rattle.wire.specs.declared.abort_code.AbortCode.TheVariants.{UnknownCommand, ToggleNotAlternated, LengthMismatch, OutOfMemory, InvalidBlockSize, InvalidSequenceNumber}
use Rattle.wire.specs.declared.frame.Frame.{Frame}
use Rattle.wire.specs.Multiplexors.{same}
use Rattle.wire.specs.Frames.{answer_identifier}
use Rattle.sdo.specs.declared.crc_offer.CrcOffer.{CrcOffer}
use Rattle.sdo.specs.declared.toggle.Toggle.{Toggle}
use Rattle.sdo.specs.declared.toggle.Toggle.TheVariants.{Zero}
use Rattle.sdo.specs.Segments.{segment, differs, other, same_toggle}
use Rattle.sdo.specs.Transfers.{Transfer, Expedited, Segmented}
use Rattle.sdo.specs.Requests.{Request}
use Rattle.sdo.specs.Requests as request
use Rattle.sdo.specs.Answers.{Answer, answer_in}
use Rattle.sdo.specs.Answers as answer
use Rattle.sdo.specs.Frames.{request_frame}
use Rattle.master.specs.declared.heard.Heard.{Heard}
use Rattle.master.specs.declared.heard.Heard.TheVariants as heard
use Rattle.master.specs.declared.phase.Phase.{Phase}
use Rattle.master.specs.declared.phase.Phase.TheVariants as phase
use Rattle.master.specs.declared.phase.Awaiting.{Awaiting}
use Rattle.master.specs.declared.phase.Awaiting.TheVariants as awaiting
use Rattle.master.specs.declared.phase.SubBlock.{SubBlock}
use Rattle.master.specs.declared.phase.Finder.{Finder}
use Rattle.master.specs.declared.phase.Finder.TheVariants.{Master, Node}
use Rattle.master.specs.Values.{segments, unused, is_last, may_come, is_block_size, closing_crc}
use Rattle.master.specs.Limits.{segment_cap, rest_ticks}
use Rattle.master.specs.States.{State}
use Rattle.master.specs.SubBlocks.{sub_block_of}
use Rattle.master.specs.Sendings.{Sending, silence}

-- the master afterwards, what hear tells, and what is done on the line
pub record Step : Type 0 where
  pub next : State
  pub heard : Heard
  pub sending : Sending

-- whether the node may have set the value: the frame was sent after which it does
abbrev pub may_have_set : Awaiting → List ℕ → Bool
may_have_set awaiting.ExpeditedDownload v = true
may_have_set (awaiting.DownloadSegment t k) v = is_last v k
may_have_set awaiting.EndBlockDownload v = true
may_have_set w v = false

-- the transfer is over by a failure, and the master rests
abbrev pub failed : AbortCode → Finder → Bool → State → State
failed c who maybe s = record s { phase = phase.Over (Err (record { code = c; finder = who; may_be_set = maybe; segment = s.highest })); rest = rest_ticks }

-- the master ends the transfer: the line is quieted, and an abort is sent
abbrev pub abandoned : Awaiting → AbortCode → State → State
abandoned w c s = failed c Master (may_have_set w s.value) s

unfoldable pub parting : AbortCode → State → Sending
parting c s = record { quiet = true; frames = request_frame s.node (request.Abort s.multiplexor c) ∷ [] }

unfoldable pub found : State → Awaiting → AbortCode → Step
found s w c = record { next = abandoned w c s; heard = heard.Over; sending = parting c s }

abbrev pub unexpected : State → Awaiting → Step
unexpected s w = found s w UnknownCommand

-- the node ended the transfer, so nothing was set: the line is quieted
unfoldable pub abort_heard : State → AbortCode → Step
abort_heard s c = record { next = failed c Node false s; heard = heard.Over; sending = record { quiet = true; frames = [] } }

-- the transfer has succeeded, with the value that was written or read
abbrev pub done : State → List ℕ → Step
done s v = record { next = record s { phase = phase.Over (Ok tt); value = v }; heard = heard.Over; sending = silence }

-- the frame is let go, or none was there
abbrev pub unmoved : State → Heard → Step
unmoved s h = record { next = s; heard = h; sending = silence }

-- frames are sent, and the next answer is awaited; h is the highest segment sent or asked for
abbrev pub send : State → Awaiting → ℕ → List ℕ → List Frame → Step
send s w h v fs = record {
  next = record s { phase = phase.Open w; value = v; highest = h; ticks = 0 };
  heard = heard.Sent;
  sending = record { quiet = false; frames = fs };
}

abbrev pub ask : State → Request → List Frame
ask s q = request_frame s.node q ∷ []

-- segment k of a write
abbrev pub send_segment : State → Toggle → ℕ → Step
send_segment s t k = send s (awaiting.DownloadSegment t k) k s.value (ask s (request.DownloadSegment t (segment k s.value) (is_last s.value k)))

-- the request for one more segment of a read
abbrev pub ask_segment : State → Toggle → Option ℕ → List ℕ → Step
ask_segment s t size v = send s (awaiting.UploadSegment t size) (min (s.highest + 1) segment_cap) v (ask s (request.UploadSegment t))

-- a sub-block of some segments behind the first b
abbrev pub send_sub_block : State → CrcOffer → ℕ → ℕ → ℕ → Step
send_sub_block s c b count short = send s (awaiting.BlockDownload (record { crc = c; acknowledged = b; count = count; short = short })) (max s.highest (b + count)) s.value (sub_block_of s.node s.value b count)

-- the end of a block write
abbrev pub send_end : State → CrcOffer → Step
send_end s c = send s awaiting.EndBlockDownload s.highest s.value (ask s (request.EndBlockDownload (unused s.value) (closing_crc c s.value)))

-- b segments are acknowledged: the next sub-block has at most n of the others, and after the last one the end is sent
abbrev pub go_on : State → CrcOffer → ℕ → ℕ → ℕ → Step
go_on s c n b short = cond (nat_le (segments s.value) b) (send_end s c) (send_sub_block s c b (min n (segments s.value - b)) short)

-- the answer to the start of a block write: the node's block size is judged
abbrev pub block_started : State → Awaiting → CrcOffer → ℕ → Step
block_started s w c n = cond (is_block_size n) (go_on s c n 0 0) (found s w InvalidBlockSize)

-- a segments of a sub-block were kept: all of them, or fewer, which may happen eight times
abbrev pub kept : State → SubBlock → ℕ → ℕ → Step
kept s x a n =
    cond (nat_lt x.count a) (found s (awaiting.BlockDownload x) InvalidSequenceNumber)
    (cond (a == x.count) (go_on s x.crc n (x.acknowledged + a) x.short)
    (cond (nat_lt x.short 8) (go_on s x.crc n (x.acknowledged + a) (x.short + 1))
    (found s (awaiting.BlockDownload x) InvalidSequenceNumber)))

-- an acknowledgement: the block size for the next sub-block is judged first
abbrev pub acknowledge : State → SubBlock → ℕ → ℕ → Step
acknowledge s x a n = cond (is_block_size n) (kept s x a n) (found s (awaiting.BlockDownload x) InvalidBlockSize)

-- a segment of a write was taken: the next one goes, after the last one the transfer has succeeded
abbrev pub segment_taken : State → Toggle → ℕ → Step
segment_taken s t k = cond (is_last s.value k) (done s s.value) (send_segment s (other t) (k + 1))

-- the answer to the start of a read: the value, or its announced size
abbrev pub upload_started : State → Awaiting → Transfer → Step
upload_started s w (Expedited v) = done s v
upload_started s w (Segmented size) = cond (may_come size) (ask_segment s Zero size []) (found s w OutOfMemory)

-- all bytes of a read are there
abbrev pub read_whole : State → Awaiting → Option ℕ → List ℕ → Step
read_whole s w size v =
    cond (nat_lt (length v) 1) (found s w OutOfMemory)
    (cond (differs size (length v)) (found s w LengthMismatch)
    (done s v))

-- one more segment of a read has brought the value to v
abbrev pub read_on : State → Awaiting → Toggle → Option ℕ → Bool → List ℕ → Step
read_on s w t size last v =
    cond (nat_lt 1024 (length v)) (found s w OutOfMemory)
    (cond last (read_whole s w size v)
    (ask_segment s (other t) size v))

-- in the answer to a start the multiplexor has to be that of the transfer
abbrev pub started : State → Awaiting → Multiplexor → Step → Step
started s w m p = cond (same m s.multiplexor) p (unexpected s w)

-- a toggle has to be the awaited one
abbrev pub toggled : State → Awaiting → Toggle → Toggle → Step → Step
toggled s w t u p = cond (same_toggle t u) p (found s w ToggleNotAlternated)

-- each answer, by what is awaited
module _ (s : State) where
  -- that to the start of a write
  abbrev pub hear_initiate_download : Awaiting → Multiplexor → Step
  hear_initiate_download awaiting.ExpeditedDownload m = started s awaiting.ExpeditedDownload m (done s s.value)
  hear_initiate_download awaiting.InitiateDownload m = started s awaiting.InitiateDownload m (send_segment s Zero 1)
  hear_initiate_download w m = unexpected s w

  -- that to a segment of a write
  abbrev pub hear_download_segment : Awaiting → Toggle → Step
  hear_download_segment (awaiting.DownloadSegment t k) u = toggled s (awaiting.DownloadSegment t k) t u (segment_taken s t k)
  hear_download_segment w u = unexpected s w

  -- that to the start of a read
  abbrev pub hear_initiate_upload : Awaiting → Multiplexor → Transfer → Step
  hear_initiate_upload awaiting.InitiateUpload m how = started s awaiting.InitiateUpload m (upload_started s awaiting.InitiateUpload how)
  hear_initiate_upload w m how = unexpected s w

  -- a segment of a read
  abbrev pub hear_upload_segment : Awaiting → Toggle → List ℕ → Bool → Step
  hear_upload_segment (awaiting.UploadSegment t size) u x last = toggled s (awaiting.UploadSegment t size) t u (read_on s (awaiting.UploadSegment t size) t size last (s.value ++ x))
  hear_upload_segment w u x last = unexpected s w

  -- that to the start of a block write
  abbrev pub hear_initiate_block : Awaiting → Multiplexor → CrcOffer → ℕ → Step
  hear_initiate_block awaiting.InitiateBlockDownload m c n = started s awaiting.InitiateBlockDownload m (block_started s awaiting.InitiateBlockDownload c n)
  hear_initiate_block w m c n = unexpected s w

  -- the acknowledgement of a sub-block
  abbrev pub hear_acknowledgement : Awaiting → ℕ → ℕ → Step
  hear_acknowledgement (awaiting.BlockDownload x) a n = acknowledge s x a n
  hear_acknowledgement w a n = unexpected s w

  -- that to the end of a block write
  abbrev pub hear_end : Awaiting → Step
  hear_end awaiting.EndBlockDownload = done s s.value
  hear_end w = unexpected s w

  -- any answer; an abort ends the transfer, whatever its multiplexor
  abbrev pub answered : Awaiting → Answer → Step
  answered w (answer.InitiateDownload m) = hear_initiate_download w m
  answered w (answer.DownloadSegment u) = hear_download_segment w u
  answered w (answer.InitiateUpload m how) = hear_initiate_upload w m how
  answered w (answer.UploadSegment u x last) = hear_upload_segment w u x last
  answered w (answer.InitiateBlockDownload m c n) = hear_initiate_block w m c n
  answered w (answer.AcknowledgeBlock a n) = hear_acknowledgement w a n
  answered w answer.EndBlockDownload = hear_end w
  answered w (answer.Abort m c) = abort_heard s c

  abbrev pub read : Awaiting → Option Answer → Step
  read w None = unexpected s w
  read w (Some a) = answered w a

  -- a frame that is not from the node is dropped
  abbrev pub hear_open : Awaiting → Frame → Step
  hear_open w f = cond (f.identifier.number == (answer_identifier s.node).number) (read w (answer_in f.bytes)) (unmoved s heard.Dropped)

  -- and so is every frame where no transfer is open
  abbrev pub hear_in : Phase → Frame → Step
  hear_in (phase.Open w) f = hear_open w f
  hear_in p f = unmoved s heard.Dropped

  abbrev pub take_in : Option Frame → Step
  take_in None = unmoved s heard.NothingWaited
  take_in (Some f) = hear_in s.phase f

unfoldable pub hear : State → Option Frame → Step
hear s taken = take_in s taken
