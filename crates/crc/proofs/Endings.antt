-- Bytes that are followed by their own check value.
use Rattle.std.proofs.Common.{◌≡◌, ℕ, zero, suc, ◌*◌, ◌/◌, ◌%◌, ◌^◌, ◌<◌, List, [], ◌∷◌, sym, refl, ap, ◌∙◌, arith, lit<}
use lib.Bits.{bit_xor, xor_self, xor_zero_r}
use Rattle.std.proofs.lemmas.List.Sums.{fold-append}
use Rattle.crc.specs.Registers.{after_bit, bit, after_bits, after_byte, after_bytes, crc}
use Rattle.crc.specs.KnownValues.{CheckedIsZero}
use Rattle.crc.proofs.Linearity.{after_bit-below}
use Rattle.crc.proofs.Bytes.{by_byte}

after_bits-below : (n r b : ℕ) → r < 2 ^ 16 → after_bits n r b < 2 ^ 16
after_bits-below zero r b h = h
after_bits-below (suc n) r b h = after_bits-below n (after_bit r (bit n b)) b (after_bit-below r (bit n b))

pub after_bytes-below : (r : ℕ) (bs : List ℕ) → r < 2 ^ 16 → after_bytes r bs < 2 ^ 16
unfolding after_byte
after_bytes-below r [] h = h
after_bytes-below r (b ∷ bs) h = after_bytes-below (after_byte r b) bs (after_bits-below 8 r b h)

-- a register that takes in its own high byte moves up
own_byte : (r b : ℕ) → r < 2 ^ 16 → r / 2 ^ 8 ≡ b → after_byte r b ≡ r % 2 ^ 8 * 2 ^ 8
unfolding after_bit after_byte
own_byte r b h e =
    by_byte r b h
    ∙ ap (λ (x : ℕ). bit_xor (r % 2 ^ 8 * 2 ^ 8) (after_byte 0 x)) (ap (bit_xor (r / 2 ^ 8)) (sym e) ∙ xor_self (r / 2 ^ 8))
    ∙ xor_zero_r (r % 2 ^ 8 * 2 ^ 8)

own_bytes : (r : ℕ) → r < 2 ^ 16 → after_byte (after_byte r (r / 2 ^ 8)) (r % 2 ^ 8) ≡ 0
own_bytes r h =
    let up = r % 2 ^ 8 * 2 ^ 8 in
    let gone : up % 2 ^ 8 * 2 ^ 8 ≡ 0 = omega arith in
    ap (λ (x : ℕ). after_byte x (r % 2 ^ 8)) (own_byte r (r / 2 ^ 8) h refl)
    ∙ own_byte up (r % 2 ^ 8) (omega arith) (omega arith)
    ∙ gone

pub checked_is_zero : CheckedIsZero
checked_is_zero bs =
    fold-append after_byte 0 bs ((crc bs / 256) ∷ (crc bs % 256) ∷ []) ∙ own_bytes (crc bs) (after_bytes-below 0 bs (lit< tt))
