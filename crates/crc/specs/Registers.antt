-- The check value of a block transfer (CiA 301, 7.2.4.3.16): a register of 16 bits that starts at 0 and takes in the value's bits
-- one by one, byte after byte, each from its highest bit. The generator is x^16 + x^12 + x^5 + 1.
use Rattle.std.specs.Prelude.{ℕ, zero, suc, ◌*◌, ◌/◌, ◌%◌, ◌^◌, cond, List, fold, ◌==◌, bit_xor}

-- x^12 + x^5 + 1: what the generator has below x^16
abbrev pub generator : ℕ
generator = 0x1021

-- the register moved up by one place, without the bit that falls out
abbrev pub moved_up : ℕ → ℕ
moved_up r = r * 2 % 2 ^ 16

-- the register after one bit: where the bit that falls out differs from it, the generator is added
unfoldable pub after_bit : ℕ → ℕ → ℕ
after_bit r b = cond (r / 2 ^ 15 == b) (moved_up r) (bit_xor (moved_up r) generator)

-- bit n of a byte
abbrev pub bit : ℕ → ℕ → ℕ
bit n b = b / 2 ^ n % 2

-- the register after the low n bits of a byte, the highest of them first
abbrev pub after_bits : ℕ → ℕ → ℕ → ℕ
after_bits zero r b = r
after_bits (suc n) r b = after_bits n (after_bit r (bit n b)) b

unfoldable pub after_byte : ℕ → ℕ → ℕ
after_byte r b = after_bits 8 r b

abbrev pub after_bytes : ℕ → List ℕ → ℕ
after_bytes r bs = fold after_byte r bs

-- the check value of some bytes
abbrev pub crc : List ℕ → ℕ
crc bs = after_bytes 0 bs
