-- What a node answers, and its eight bytes.
use Rattle.std.specs.Prelude.{ℕ, ◌+◌, ◌*◌, ◌%◌, Bool, cond, List, [], ◌∷◌, ◌++◌, Some, None, Option, ◌==◌}
use Rattle.wire.specs.declared.multiplexor.Multiplexor.{Multiplexor}
use Rattle.wire.specs.declared.abort_code.AbortCode.{AbortCode}
use Rattle.sdo.specs.declared.layout.Initiate.TheVariants.{Upload}
use Rattle.sdo.specs.Fields.{b, kind, multiplexor_bytes, multiplexor_in, number_bytes, abort_bytes, abort_code_in, bare}
use Rattle.sdo.specs.FrameData.{value_in}
use Rattle.sdo.specs.Transfers.{Transfer, initiate_bytes, transfer_in, shown_transfer}
use Rattle.sdo.specs.Segments.{toggle_bit, toggle_in, segment_bytes, data_in, last_in}
use Rattle.sdo.specs.Blocks.{offer_bit, offer_in}
use Rattle.sdo.specs.declared.toggle.Toggle.{Toggle}
use Rattle.sdo.specs.declared.crc_offer.CrcOffer.{CrcOffer}
use Rattle.sdo.specs.declared.answer.Answer as declared

-- by the CiA 301 name of the protocol; an acknowledgement has the last segment kept and the size of the next sub-block, as the bytes stand in the frame
pub data Answer : Type 0 where
  InitiateDownload : Multiplexor → Answer
  DownloadSegment : Toggle → Answer
  InitiateUpload : Multiplexor → Transfer → Answer
  UploadSegment : Toggle → List ℕ → Bool → Answer
  InitiateBlockDownload : Multiplexor → CrcOffer → ℕ → Answer
  AcknowledgeBlock : ℕ → ℕ → Answer
  EndBlockDownload : Answer
  Abort : Multiplexor → AbortCode → Answer

-- the bytes of an answer
abbrev pub answer_bytes : Answer → List ℕ
answer_bytes (InitiateDownload m) = 0x60 ∷ (multiplexor_bytes m ++ number_bytes 0)
answer_bytes (DownloadSegment t) = bare (0x20 + 16 * toggle_bit t)
answer_bytes (InitiateUpload m t) = initiate_bytes Upload m t
answer_bytes (UploadSegment t v last) = segment_bytes t v last
answer_bytes (InitiateBlockDownload m crc size) = (0xa0 + 4 * offer_bit crc) ∷ (multiplexor_bytes m ++ (size ∷ 0 ∷ 0 ∷ 0 ∷ []))
answer_bytes (AcknowledgeBlock kept size) = 0xa2 ∷ kept ∷ size ∷ 0 ∷ 0 ∷ 0 ∷ 0 ∷ 0 ∷ []
answer_bytes EndBlockDownload = bare 0xa1
answer_bytes (Abort m c) = abort_bytes m c

-- the fields of a segment, of the answer to a block's start and of an acknowledgement
abbrev pub upload_segment_in : List ℕ → Answer
upload_segment_in bytes = UploadSegment (toggle_in bytes) (data_in bytes) (last_in bytes)

abbrev pub block_started_in : List ℕ → Answer
block_started_in bytes = InitiateBlockDownload (multiplexor_in bytes) (offer_in bytes) (b 4 bytes)

abbrev pub acknowledgement_in : List ℕ → Answer
acknowledgement_in bytes = AcknowledgeBlock (b 1 bytes) (b 2 bytes)

-- kind 5 is split by bits 1 and 0
abbrev pub block_answer_in : List ℕ → Option Answer
block_answer_in bytes =
    cond (b 0 bytes % 4 == 0) (Some (block_started_in bytes))
    (cond (b 0 bytes % 4 == 1) (Some EndBlockDownload)
    (cond (b 0 bytes % 4 == 2) (Some (acknowledgement_in bytes))
    None))

-- the answer in some bytes, by their kind
abbrev pub answer_of_kind : ℕ → List ℕ → Option Answer
answer_of_kind k bytes =
    cond (k == 0) (Some (upload_segment_in bytes))
    (cond (k == 1) (Some (DownloadSegment (toggle_in bytes)))
    (cond (k == 2) (Some (InitiateUpload (multiplexor_in bytes) (transfer_in bytes)))
    (cond (k == 3) (Some (InitiateDownload (multiplexor_in bytes)))
    (cond (k == 4) (Some (Abort (multiplexor_in bytes) (abort_code_in bytes)))
    (cond (k == 5) (block_answer_in bytes)
    None)))))

abbrev pub answer_in : List ℕ → Option Answer
answer_in bytes = answer_of_kind (kind bytes) bytes

-- what an answer of the code says
abbrev pub shown_answer : declared.Answer → Answer
shown_answer (declared.TheVariants.InitiateDownload m) = InitiateDownload m
shown_answer (declared.TheVariants.DownloadSegment t) = DownloadSegment t
shown_answer (declared.TheVariants.InitiateUpload m t) = InitiateUpload m (shown_transfer t)
shown_answer (declared.TheVariants.UploadSegment s) = UploadSegment s.toggle (value_in s.bytes) s.last
shown_answer (declared.TheVariants.InitiateBlockDownload m crc size) = InitiateBlockDownload m crc size
shown_answer (declared.TheVariants.AcknowledgeBlock kept size) = AcknowledgeBlock kept size
shown_answer declared.TheVariants.EndBlockDownload = EndBlockDownload
shown_answer (declared.TheVariants.Abort m c) = Abort m c
