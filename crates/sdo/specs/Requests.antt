-- What a master asks of a node that receives no block segments, and its eight bytes.
use Rattle.std.specs.Prelude.{ℕ, ◌+◌, ◌*◌, Bool, true, false, cond, List, ◌∷◌, ◌++◌, Some, None, Option, ◌==◌}
use Rattle.wire.specs.declared.multiplexor.Multiplexor.{Multiplexor}
use Rattle.wire.specs.declared.abort_code.AbortCode.{AbortCode}
use Rattle.sdo.specs.declared.layout.Initiate.TheVariants.{Download}
use Rattle.sdo.specs.Fields.{b, bit0, kind, multiplexor_bytes, multiplexor_in, number_bytes, abort_bytes, abort_code_in, bare}
use Rattle.sdo.specs.FrameData.{value_in}
use Rattle.sdo.specs.Transfers.{Transfer, Expedited, Segmented, initiate_bytes, transfer_in, shown_transfer}
use Rattle.sdo.specs.Segments.{toggle_bit, toggle_in, segment_bytes, data_in, last_in}
use Rattle.sdo.specs.Blocks.{offer_bit, offer_in, size_bit, size_number, size_in, end_bytes, unused_in, crc_in}
use Rattle.sdo.specs.declared.toggle.Toggle.{Toggle}
use Rattle.sdo.specs.declared.crc_offer.CrcOffer.{CrcOffer}
use Rattle.sdo.specs.declared.request.Request as declared

-- by the CiA 301 name of the protocol; a segment has its toggle, data and whether it is the last, a block's end has the number of unused bytes and the CRC
pub data Request : Type 0 where
  InitiateDownload : Multiplexor → Transfer → Request
  DownloadSegment : Toggle → List ℕ → Bool → Request
  InitiateUpload : Multiplexor → Request
  UploadSegment : Toggle → Request
  InitiateBlockDownload : Multiplexor → CrcOffer → Option ℕ → Request
  EndBlockDownload : ℕ → ℕ → Request
  Abort : Multiplexor → AbortCode → Request

-- a request with which a value is whole, so that a node sets it: a start that carries the value, a segment that is marked as the last, the end of a block write
abbrev pub completes : Request → Bool
completes (InitiateDownload m (Expedited v)) = true
completes (InitiateDownload m (Segmented size)) = false
completes (DownloadSegment t v last) = last
completes (InitiateUpload m) = false
completes (UploadSegment t) = false
completes (InitiateBlockDownload m c size) = false
completes (EndBlockDownload unused k) = true
completes (Abort m c) = false

-- the bytes of a request
abbrev pub request_bytes : Request → List ℕ
request_bytes (InitiateDownload m t) = initiate_bytes Download m t
request_bytes (DownloadSegment t v last) = segment_bytes t v last
request_bytes (InitiateUpload m) = 0x40 ∷ (multiplexor_bytes m ++ number_bytes 0)
request_bytes (UploadSegment t) = bare (0x60 + 16 * toggle_bit t)
request_bytes (InitiateBlockDownload m crc size) = (0xc0 + 4 * offer_bit crc + 2 * size_bit size) ∷ (multiplexor_bytes m ++ number_bytes (size_number size))
request_bytes (EndBlockDownload unused crc) = end_bytes unused crc
request_bytes (Abort m c) = abort_bytes m c

-- the fields of a segment, of a block's start and of its end
abbrev pub download_segment_in : List ℕ → Request
download_segment_in bytes = DownloadSegment (toggle_in bytes) (data_in bytes) (last_in bytes)

abbrev pub block_start_in : List ℕ → Request
block_start_in bytes = InitiateBlockDownload (multiplexor_in bytes) (offer_in bytes) (size_in bytes)

abbrev pub block_end_in : List ℕ → Request
block_end_in bytes = EndBlockDownload (unused_in bytes) (crc_in bytes)

-- kind 6 is split by bit 0
abbrev pub block_download_in : List ℕ → Request
block_download_in bytes = cond (bit0 (b 0 bytes)) (block_end_in bytes) (block_start_in bytes)

-- the request in some bytes, by their kind
abbrev pub request_of_kind : ℕ → List ℕ → Option Request
request_of_kind k bytes =
    cond (k == 0) (Some (download_segment_in bytes))
    (cond (k == 1) (Some (InitiateDownload (multiplexor_in bytes) (transfer_in bytes)))
    (cond (k == 2) (Some (InitiateUpload (multiplexor_in bytes)))
    (cond (k == 3) (Some (UploadSegment (toggle_in bytes)))
    (cond (k == 4) (Some (Abort (multiplexor_in bytes) (abort_code_in bytes)))
    (cond (k == 6) (Some (block_download_in bytes))
    None)))))

abbrev pub request_in : List ℕ → Option Request
request_in bytes = request_of_kind (kind bytes) bytes

-- what a request of the code says
abbrev pub shown_request : declared.Request → Request
shown_request (declared.TheVariants.InitiateDownload m t) = InitiateDownload m (shown_transfer t)
shown_request (declared.TheVariants.DownloadSegment s) = DownloadSegment s.toggle (value_in s.bytes) s.last
shown_request (declared.TheVariants.InitiateUpload m) = InitiateUpload m
shown_request (declared.TheVariants.UploadSegment t) = UploadSegment t
shown_request (declared.TheVariants.InitiateBlockDownload m crc size) = InitiateBlockDownload m crc size
shown_request (declared.TheVariants.EndBlockDownload unused crc) = EndBlockDownload unused.number crc
shown_request (declared.TheVariants.Abort m c) = Abort m c
