-- Reading what was made gives back what went in, for every message that fits its frame.
use Rattle.std.specs.Prelude.{◌≡◌, ℕ, ◌^◌, ◌<◌, ◌≤◌, Bool, true, false, length, Some}
use Rattle.sdo.specs.Fits.{Indexed, Sized, Carried, Proper}
use Rattle.sdo.specs.Requests.{Request, request_bytes, request_in}
use Rattle.sdo.specs.Requests as request
use Rattle.sdo.specs.BlockRequests.{BlockRequest, block_request_bytes, block_request_in}
use Rattle.sdo.specs.BlockRequests as block
use Rattle.sdo.specs.Answers.{Answer, answer_bytes, answer_in}
use Rattle.sdo.specs.Answers as answer

abbrev pub RequestFits : Request → Type 0
RequestFits (request.InitiateDownload m t) = Indexed m × Carried t
RequestFits (request.DownloadSegment t v last) = length v ≤ 7
RequestFits (request.InitiateUpload m) = Indexed m
RequestFits (request.UploadSegment t) = Unit {0}
RequestFits (request.InitiateBlockDownload m crc size) = Indexed m × Sized size
RequestFits (request.EndBlockDownload unused crc) = (unused < 8) × (crc < 2 ^ 16)
RequestFits (request.Abort m c) = Indexed m × Proper c

-- a segment's number is 1 to 127, or 0 where the segment is not the last
abbrev pub Numbered : Bool → ℕ → Type 0
Numbered true s = (1 ≤ s) × (s < 128)
Numbered false s = s < 128

abbrev pub BlockRequestFits : BlockRequest → Type 0
BlockRequestFits (block.Segment last s v) = Numbered last s × (length v ≡ 7)
BlockRequestFits (block.Abort m c) = Indexed m × Proper c

abbrev pub AnswerFits : Answer → Type 0
AnswerFits (answer.InitiateDownload m) = Indexed m
AnswerFits (answer.DownloadSegment t) = Unit {0}
AnswerFits (answer.InitiateUpload m t) = Indexed m × Carried t
AnswerFits (answer.UploadSegment t v last) = length v ≤ 7
AnswerFits (answer.InitiateBlockDownload m crc size) = Indexed m × (size < 256)
AnswerFits (answer.AcknowledgeBlock kept size) = (kept < 256) × (size < 256)
AnswerFits answer.EndBlockDownload = Unit {0}
AnswerFits (answer.Abort m c) = Indexed m × Proper c

abbrev pub RequestsReadBack : Type 0
RequestsReadBack = (q : Request) → RequestFits q → request_in (request_bytes q) ≡ Some q

abbrev pub BlockRequestsReadBack : Type 0
BlockRequestsReadBack = (q : BlockRequest) → BlockRequestFits q → block_request_in (block_request_bytes q) ≡ q

abbrev pub AnswersReadBack : Type 0
AnswersReadBack = (a : Answer) → AnswerFits a → answer_in (answer_bytes a) ≡ Some a
