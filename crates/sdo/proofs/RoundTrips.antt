-- Reading what was made gives back what went in.
use Rattle.std.proofs.Common.{◌≡◌, ℕ, ◌+◌, ◌*◌, ◌/◌, ◌%◌, Bool, true, false, cond, eqb, List, [], ◌∷◌, ◌++◌, length, Some, None, Option, refl, ap, ◌∙◌, arith, ne_eqb}
use Rattle.wire.specs.declared.multiplexor.Multiplexor.{Multiplexor}
use Rattle.wire.specs.AbortCodes.{number}
use Rattle.sdo.specs.declared.layout.Initiate.TheVariants.{Download, Upload}
use Rattle.sdo.specs.Fields.{multiplexor_bytes, multiplexor_in, number_bytes, number_in, abort_bytes, abort_code_in, set_bit, last_seven}
use Rattle.sdo.specs.Transfers.{transfer_bits, transfer_bytes, transfer_in, initiate_bytes}
use Rattle.sdo.specs.Fits.{Indexed, Sized}
use Rattle.sdo.proofs.FieldsBack.{two_bytes, four_bytes, four_bits, multiplexor_back, download_back, upload_back, code_back, toggle_back, last_back, data_back, segment_kind}
use Rattle.sdo.specs.Segments.{segment_bytes, data_in, last_in}
use Rattle.sdo.specs.Blocks.{end_bytes, crc_in}
use Rattle.sdo.specs.Requests as request
use Rattle.sdo.specs.BlockRequests as block
use Rattle.sdo.specs.Answers as answer
use Rattle.sdo.specs.RoundTrips.{RequestsReadBack, BlockRequestsReadBack, AnswersReadBack}
use Rattle.sdo.specs.declared.toggle.Toggle.TheVariants.{Zero, One}
use Rattle.sdo.specs.declared.crc_offer.CrcOffer.{CrcOffer}
use Rattle.sdo.specs.declared.crc_offer.CrcOffer.TheVariants.{Offered, NotOffered}
use Rattle.sdo.proofs.Spelling.{from_the_first}

block_start_back : (m : Multiplexor) → Indexed m → (crc : CrcOffer) (size : Option ℕ) → Sized size → request.request_in (request.request_bytes (request.InitiateBlockDownload m crc size)) ≡ Some (request.InitiateBlockDownload m crc size)
block_start_back m own Offered (Some size) fits =
    ap (λ x. Some (request.InitiateBlockDownload x Offered (Some (number_in (0xc6 ∷ (multiplexor_bytes m ++ number_bytes size)))))) (multiplexor_back m own 0xc6 (number_bytes size))
    ∙ ap (λ n. Some (request.InitiateBlockDownload m Offered (Some n))) (four_bytes size fits)
block_start_back m own NotOffered (Some size) fits =
    ap (λ x. Some (request.InitiateBlockDownload x NotOffered (Some (number_in (0xc2 ∷ (multiplexor_bytes m ++ number_bytes size)))))) (multiplexor_back m own 0xc2 (number_bytes size))
    ∙ ap (λ n. Some (request.InitiateBlockDownload m NotOffered (Some n))) (four_bytes size fits)
block_start_back m own Offered None fits = ap (λ x. Some (request.InitiateBlockDownload x Offered None)) (multiplexor_back m own 0xc4 (number_bytes 0))
block_start_back m own NotOffered None fits = ap (λ x. Some (request.InitiateBlockDownload x NotOffered None)) (multiplexor_back m own 0xc0 (number_bytes 0))

pub requests_read_back : RequestsReadBack
requests_read_back (request.InitiateDownload m t) (own, fits) =
    let low = four_bits t fits in
    let bytes = initiate_bytes Download m t in
    let kind : (0x20 + transfer_bits t) / 32 ≡ 1 = omega arith in
    ap (λ k. request.request_of_kind k bytes) kind
    ∙ ap (λ x. Some (request.InitiateDownload x (transfer_in bytes))) (multiplexor_back m own (0x20 + transfer_bits t) (transfer_bytes t))
    ∙ ap (λ x. Some (request.InitiateDownload m x)) (download_back m own t fits)
requests_read_back (request.DownloadSegment t v last) fits =
    let bytes = segment_bytes t v last in
    ap (λ k. request.request_of_kind k bytes) (segment_kind t v last fits)
    ∙ ap (λ x. Some (request.DownloadSegment x (data_in bytes) (last_in bytes))) (toggle_back t v last fits)
    ∙ ap (λ x. Some (request.DownloadSegment t x (last_in bytes))) (data_back t v last fits)
    ∙ ap (λ x. Some (request.DownloadSegment t v x)) (last_back t v last fits)
requests_read_back (request.InitiateUpload m) own = ap (λ x. Some (request.InitiateUpload x)) (multiplexor_back m own 0x40 (number_bytes 0))
requests_read_back (request.UploadSegment Zero) fits = refl
requests_read_back (request.UploadSegment One) fits = refl
requests_read_back (request.InitiateBlockDownload m crc size) (own, fits) = block_start_back m own crc size fits
requests_read_back (request.EndBlockDownload n crc) (few, fits) =
    let bytes = end_bytes n crc in
    let kind : (0xc1 + 4 * n) / 32 ≡ 6 = omega arith in
    let odd : (0xc1 + 4 * n) % 2 ≡ 1 = omega arith in
    let quarter : (0xc1 + 4 * n) / 4 ≡ 48 + n = omega arith in
    let wrapped : (48 + n) % 8 ≡ n = omega arith in
    ap (λ k. request.request_of_kind k bytes) kind
    ∙ ap (λ q. Some (cond (eqb q 1) (request.block_end_in bytes) (request.block_start_in bytes))) odd
    ∙ ap (λ x. Some (request.EndBlockDownload (x % 8) (crc_in bytes))) quarter
    ∙ ap (λ x. Some (request.EndBlockDownload x (crc_in bytes))) wrapped
    ∙ ap (λ x. Some (request.EndBlockDownload n x)) (two_bytes crc fits)
requests_read_back (request.Abort m c) (own, proper) =
    ap (λ x. Some (request.Abort x (abort_code_in (abort_bytes m c)))) (multiplexor_back m own 0x80 (number_bytes (number c)))
    ∙ ap (λ x. Some (request.Abort m x)) (code_back m c proper)

-- a block segment, once its command is told apart from an abort's
block_segment_back : (last : Bool) (s : ℕ) (v : List ℕ) → length v ≡ 7 → let b0 = 128 * set_bit last + s in eqb b0 0x80 ≡ false → eqb (b0 / 128 % 2) 1 ≡ last → b0 % 128 ≡ s → block.block_request_in (b0 ∷ v) ≡ block.Segment last s v
block_segment_back last s v seven none marked numbered =
    let b0 = 128 * set_bit last + s in
    let eight : length (b0 ∷ v) ≡ 8 = omega arith in
    ap (λ q. cond q (block.Abort (multiplexor_in (b0 ∷ v)) (abort_code_in (b0 ∷ v))) (block.block_segment_in (b0 ∷ v))) none
    ∙ ap (λ q. block.Segment q (b0 % 128) (last_seven (b0 ∷ v))) marked
    ∙ ap (λ k. block.Segment last k (last_seven (b0 ∷ v))) numbered
    ∙ ap (block.Segment last s) (from_the_first (b0 ∷ v) eight)

pub block_requests_read_back : BlockRequestsReadBack
block_requests_read_back (block.Segment true s v) ((some, few), seven) =
    let marked : (128 * 1 + s) / 128 % 2 ≡ 1 = omega arith in
    block_segment_back true s v seven (ne_eqb (128 * 1 + s) 0x80 (λ e. omega arith)) (ap (λ q. eqb q 1) marked) (omega arith)
block_requests_read_back (block.Segment false s v) (few, seven) =
    let marked : (128 * 0 + s) / 128 % 2 ≡ 0 = omega arith in
    block_segment_back false s v seven (ne_eqb (128 * 0 + s) 0x80 (λ e. omega arith)) (ap (λ q. eqb q 1) marked) (omega arith)
block_requests_read_back (block.Abort m c) (own, proper) =
    ap (λ x. block.Abort x (abort_code_in (abort_bytes m c))) (multiplexor_back m own 0x80 (number_bytes (number c)))
    ∙ ap (block.Abort m) (code_back m c proper)

pub answers_read_back : AnswersReadBack
answers_read_back (answer.InitiateDownload m) own = ap (λ x. Some (answer.InitiateDownload x)) (multiplexor_back m own 0x60 (number_bytes 0))
answers_read_back (answer.DownloadSegment Zero) fits = refl
answers_read_back (answer.DownloadSegment One) fits = refl
answers_read_back (answer.InitiateUpload m t) (own, fits) =
    let low = four_bits t fits in
    let bytes = initiate_bytes Upload m t in
    let kind : (0x40 + transfer_bits t) / 32 ≡ 2 = omega arith in
    ap (λ k. answer.answer_of_kind k bytes) kind
    ∙ ap (λ x. Some (answer.InitiateUpload x (transfer_in bytes))) (multiplexor_back m own (0x40 + transfer_bits t) (transfer_bytes t))
    ∙ ap (λ x. Some (answer.InitiateUpload m x)) (upload_back m own t fits)
answers_read_back (answer.UploadSegment t v last) fits =
    let bytes = segment_bytes t v last in
    ap (λ k. answer.answer_of_kind k bytes) (segment_kind t v last fits)
    ∙ ap (λ x. Some (answer.UploadSegment x (data_in bytes) (last_in bytes))) (toggle_back t v last fits)
    ∙ ap (λ x. Some (answer.UploadSegment t x (last_in bytes))) (data_back t v last fits)
    ∙ ap (λ x. Some (answer.UploadSegment t v x)) (last_back t v last fits)
answers_read_back (answer.InitiateBlockDownload m Offered size) (own, fits) = ap (λ x. Some (answer.InitiateBlockDownload x Offered size)) (multiplexor_back m own 0xa4 (size ∷ 0 ∷ 0 ∷ 0 ∷ []))
answers_read_back (answer.InitiateBlockDownload m NotOffered size) (own, fits) = ap (λ x. Some (answer.InitiateBlockDownload x NotOffered size)) (multiplexor_back m own 0xa0 (size ∷ 0 ∷ 0 ∷ 0 ∷ []))
answers_read_back (answer.AcknowledgeBlock kept size) fits = refl
answers_read_back answer.EndBlockDownload fits = refl
answers_read_back (answer.Abort m c) (own, proper) =
    ap (λ x. Some (answer.Abort x (abort_code_in (abort_bytes m c)))) (multiplexor_back m own 0x80 (number_bytes (number c)))
    ∙ ap (λ x. Some (answer.Abort m x)) (code_back m c proper)
