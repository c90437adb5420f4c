-- What block downloads have in their frames beside multiplexors and data: the offer of a CRC, a size, the end's fields.
use Rattle.std.specs.Prelude.{ℕ, ◌+◌, ◌*◌, ◌/◌, ◌%◌, cond, List, [], ◌∷◌, Some, None, Option}
use Rattle.sdo.specs.Fields.{b, bit1, number_in, bit2}
use Rattle.sdo.specs.declared.crc_offer.CrcOffer.{CrcOffer}
use Rattle.sdo.specs.declared.ranged.Ranged.{Ranged}
use Rattle.sdo.specs.declared.crc_offer.CrcOffer.TheVariants.{Offered, NotOffered}

-- a number of segments, 1 to 127
abbrev pub BlockSize : Type 0
BlockSize = Ranged 1 127

-- the offer of a CRC, bit 2 of b0
abbrev pub offer_bit : CrcOffer → ℕ
offer_bit Offered = 1
offer_bit NotOffered = 0

abbrev pub offer_in : List ℕ → CrcOffer
offer_in bytes = cond (bit2 (b 0 bytes)) Offered NotOffered

-- bit 1 of a block start's b0 says that a size stands in b4 to b7; an unknown one is written as 0
abbrev pub size_bit : Option ℕ → ℕ
size_bit (Some size) = 1
size_bit None = 0

abbrev pub size_number : Option ℕ → ℕ
size_number (Some size) = size
size_number None = 0

abbrev pub size_in : List ℕ → Option ℕ
size_in bytes = cond (bit1 (b 0 bytes)) (Some (number_in bytes)) None

-- the end of a block download: in bits 4 to 2 of b0 the number of unused bytes of the last segment, in b1 and b2 the CRC
abbrev pub end_bytes : ℕ → ℕ → List ℕ
end_bytes unused crc = (0xc1 + 4 * unused) ∷ crc % 256 ∷ crc / 256 % 256 ∷ 0 ∷ 0 ∷ 0 ∷ 0 ∷ 0 ∷ []

abbrev pub unused_in : List ℕ → ℕ
unused_in bytes = b 0 bytes / 4 % 8

abbrev pub crc_in : List ℕ → ℕ
crc_in bytes = b 1 bytes + b 2 bytes * 256
