-- What a master sends to a node that receives block segments, and its eight bytes.
-- There exactly b0 = 0x80 is an abort; every other b0 is a segment.
use Rattle.std.specs.Prelude.{ℕ, ◌+◌, ◌*◌, ◌%◌, Bool, cond, List, ◌∷◌, ◌==◌}
use Rattle.wire.specs.declared.multiplexor.Multiplexor.{Multiplexor}
use Rattle.wire.specs.declared.abort_code.AbortCode.{AbortCode}
use Rattle.sdo.specs.Fields.{b, multiplexor_in, abort_bytes, abort_code_in, bit7, set_bit, last_seven}
use Rattle.sdo.specs.declared.block_request.BlockRequest as declared

-- a segment has whether it is the last, its number within the sub-block and seven bytes
pub data BlockRequest : Type 0 where
  Segment : Bool → ℕ → List ℕ → BlockRequest
  Abort : Multiplexor → AbortCode → BlockRequest

-- bit 7 of b0 marks the last segment, the other bits have the number
abbrev pub block_request_bytes : BlockRequest → List ℕ
block_request_bytes (Segment last s v) = (128 * set_bit last + s) ∷ v
block_request_bytes (Abort m c) = abort_bytes m c

abbrev pub block_segment_in : List ℕ → BlockRequest
block_segment_in bytes = Segment (bit7 (b 0 bytes)) (b 0 bytes % 128) (last_seven bytes)

abbrev pub block_request_in : List ℕ → BlockRequest
block_request_in bytes = cond (b 0 bytes == 0x80) (Abort (multiplexor_in bytes) (abort_code_in bytes)) (block_segment_in bytes)

-- what a block request of the code says
abbrev pub shown_block_request : declared.BlockRequest → BlockRequest
shown_block_request (declared.TheVariants.Segment last s v) = Segment last s.number v
shown_block_request (declared.TheVariants.Abort m c) = Abort m c
