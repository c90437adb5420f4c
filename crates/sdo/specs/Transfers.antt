-- How a value comes across, and the bits and bytes of a transfer's start that say so.
use Rattle.std.specs.Prelude.{ℕ, ◌+◌, ◌-◌, ◌*◌, ◌/◌, ◌%◌, cond, List, [], ◌∷◌, ◌++◌, length, take, Some, None, Option}
use Rattle.sdo.specs.Fields.{b, bit0, bit1, multiplexor_bytes, number_bytes, number_in, last_four}
use Rattle.sdo.specs.FrameData.{padded, value_in}
use Rattle.sdo.specs.declared.layout.Initiate.{Initiate}
use Rattle.sdo.specs.declared.layout.Initiate.TheVariants.{Download, Upload}
use Rattle.wire.specs.declared.multiplexor.Multiplexor.{Multiplexor}
use Rattle.sdo.specs.declared.transfer.Transfer as declared

-- the value at once in the start, or in segments, with its size announced or unknown
pub data Transfer : Type 0 where
  Expedited : List ℕ → Transfer
  Segmented : Option ℕ → Transfer

-- the low bits of a start's b0: in bits 3 and 2 the number of unused bytes, bit 1 for expedited, bit 0 for a size
abbrev pub transfer_bits : Transfer → ℕ
transfer_bits (Expedited v) = 4 * (4 - length v) + 3
transfer_bits (Segmented (Some size)) = 1
transfer_bits (Segmented None) = 0

-- a start's b4 to b7
abbrev pub transfer_bytes : Transfer → List ℕ
transfer_bytes (Expedited v) = padded 4 v
transfer_bytes (Segmented (Some size)) = number_bytes size
transfer_bytes (Segmented None) = 0 ∷ 0 ∷ 0 ∷ 0 ∷ []

-- the start of a write, and the answer to the start of a read
abbrev pub initiate_command : Initiate → ℕ
initiate_command Download = 0x20
initiate_command Upload = 0x40

abbrev pub initiate_bytes : Initiate → Multiplexor → Transfer → List ℕ
initiate_bytes i m t = (initiate_command i + transfer_bits t) ∷ (multiplexor_bytes m ++ transfer_bytes t)

-- how many bytes an expedited start carries: all four where no size stands
abbrev pub expedited_length : ℕ → ℕ
expedited_length b0 = cond (bit0 b0) (4 - b0 / 4 % 4) 4

abbrev pub expedited_in : List ℕ → List ℕ
expedited_in bytes = take (expedited_length (b 0 bytes)) (last_four bytes)

-- what a start's bytes say
abbrev pub transfer_in : List ℕ → Transfer
transfer_in bytes =
    cond (bit1 (b 0 bytes))
    (Expedited (expedited_in bytes))
    (Segmented (cond (bit0 (b 0 bytes)) (Some (number_in bytes)) None))

-- how a value comes across by the code's words
abbrev pub shown_transfer : declared.Transfer → Transfer
shown_transfer (declared.TheVariants.Expedited d) = Expedited (value_in d)
shown_transfer (declared.TheVariants.Segmented s) = Segmented s
