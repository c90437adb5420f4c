-- A value as its segments cut it: seven bytes each, the last one up to seven.
use Rattle.std.specs.Prelude.{ℕ, ◌+◌, ◌-◌, ◌*◌, ◌/◌, Bool, true, ◌&&◌, List, length, Some, None, Option, nat_le}
use Rattle.crc.specs.Registers.{crc}
use Rattle.sdo.specs.declared.crc_offer.CrcOffer.{CrcOffer}
use Rattle.sdo.specs.declared.crc_offer.CrcOffer.TheVariants.{Offered, NotOffered}

-- how many segments a value has, and how many bytes of the last one are not of the value
abbrev pub segments : List ℕ → ℕ
segments v = (length v + 6) / 7

abbrev pub unused : List ℕ → ℕ
unused v = 7 * segments v - length v

-- segment k is the last of a value
abbrev pub is_last : List ℕ → ℕ → Bool
is_last v k = nat_le (length v) (7 * k)

-- a number of bytes that a value can have
abbrev pub is_length : ℕ → Bool
is_length n = nat_le 1 n && nat_le n 1024

-- an announced size is one that a value can have, where there is one
abbrev pub may_come : Option ℕ → Bool
may_come None = true
may_come (Some size) = is_length size

-- a number of segments that a sub-block can have
abbrev pub is_block_size : ℕ → Bool
is_block_size n = nat_le 1 n && nat_le n 127

-- the CRC of a block write's end: zero where the node offered none
abbrev pub closing_crc : CrcOffer → List ℕ → ℕ
closing_crc Offered v = crc v
closing_crc NotOffered v = 0
