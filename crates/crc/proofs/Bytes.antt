-- A whole byte at once: the register moves up by a byte, and adds the check value of what falls out and comes in.
use Rattle.std.proofs.Common.{◌≡◌, ℕ, zero, suc, ◌+◌, ◌*◌, ◌/◌, ◌%◌, ◌^◌, ◌<◌, eqb, sym, refl, ap, ◌∙◌, ap₂, add-zero, mod-eq_of_lt, mul_assoc, pow-suc, mul-one, mul-div_cancel, one-add, arith, lit<, pow_pos}
use native.Mathlib.Nat.{mul-mod_left, pow-succ'}
use lib.Arith.{mod-mul}
use lib.Bits.{bit_xor, xor_zero_r, xor_self, xor_assoc}
use lib.Pow.{mod-mod-pow}
use Rattle.std.proofs.lemmas.Nat.{field_of, shr-shr}
use Rattle.std.proofs.lemmas.Bool.{cond-true, eq-eqb}
use Rattle.crc.specs.Registers.{generator, moved_up, after_bit, bit, after_bits, after_byte}
use Rattle.crc.proofs.Linearity.{moved_below, after_bits_linear}

-- a bit that equals the one that falls out adds nothing
unchanged : (r x : ℕ) → r / 2 ^ 15 ≡ x → after_bit r x ≡ moved_up r
unfolding after_bit
unchanged r x e = cond-true (eqb (r / 2 ^ 15) x) (moved_up r) (bit_xor (moved_up r) generator) (eq-eqb (r / 2 ^ 15) x e)

doubled_mod : (r k : ℕ) → r * 2 % 2 ^ suc k ≡ r % 2 ^ k * 2
doubled_mod r k =
    ap (λ (p : ℕ). r * 2 % p) (pow-suc 2 k)
    ∙ mod-mul (r * 2) (pow_pos k) (lit< tt)
    ∙ ap₂ (λ (x y : ℕ). x % 2 ^ k * 2 + y) (mul-div_cancel r (lit< tt)) (mul-mod_left r 2)
    ∙ add-zero (r % 2 ^ k * 2)

doubled_div : (r k : ℕ) → r * 2 / 2 ^ suc k ≡ r / 2 ^ k
doubled_div r k =
    ap (λ (j : ℕ). r * 2 / 2 ^ j) (sym (one-add k)) ∙ sym (shr-shr (r * 2) 1 k) ∙ ap (λ (x : ℕ). x / 2 ^ k) (mul-div_cancel r (lit< tt))

-- a register whose high bits are the bits that come in: n of them, above m others
module _ (n m r c : ℕ) (whole : suc n + m ≡ 16) (alike : r / 2 ^ m ≡ c % 2 ^ suc n) where
  falls_out : r / 2 ^ 15 ≡ bit n c
  falls_out =
      let e : 15 ≡ m + n = omega arith in
      ap (λ (k : ℕ). r / 2 ^ k) e
      ∙ sym (shr-shr r m n)
      ∙ ap (λ (x : ℕ). x / 2 ^ n) (alike ∙ ap (λ (k : ℕ). c % 2 ^ k) (sym (one-add n)))
      ∙ field_of c 1 n

  still_alike : moved_up r / 2 ^ suc m ≡ c % 2 ^ n
  still_alike =
      let e : 16 ≡ n + suc m = omega arith in
      ap (λ (k : ℕ). r * 2 % 2 ^ k / 2 ^ suc m) e
      ∙ field_of (r * 2) n (suc m)
      ∙ ap (λ (x : ℕ). x % 2 ^ n) (doubled_div r m ∙ alike ∙ ap (λ (k : ℕ). c % 2 ^ k) (sym (one-add n)))
      ∙ mod-mod-pow c 1 n

  left_over : moved_up r % 2 ^ suc m ≡ r % 2 ^ m * 2
  left_over =
      let e : 16 ≡ n + suc m = omega arith in
      ap (λ (k : ℕ). r * 2 % 2 ^ k % 2 ^ suc m) e ∙ mod-mod-pow (r * 2) n (suc m) ∙ doubled_mod r m

-- it takes them in by moving up
moves_up : (n m r c : ℕ) → n + m ≡ 16 → r < 2 ^ 16 → r / 2 ^ m ≡ c % 2 ^ n → after_bits n r c ≡ r % 2 ^ m * 2 ^ n
moves_up zero m r c whole h alike =
    let e : 16 ≡ m = omega arith in
    sym (mul-one (r % 2 ^ m) ∙ ap (λ (k : ℕ). r % 2 ^ k) (sym e) ∙ mod-eq_of_lt h)
moves_up (suc n) m r c whole h alike =
    ap (λ (x : ℕ). after_bits n x c) (unchanged r (bit n c) (falls_out n m r c whole alike))
    ∙ moves_up n (suc m) (moved_up r) c (omega arith) (moved_below r) (still_alike n m r c whole alike)
    ∙ ap (λ (x : ℕ). x * 2 ^ n) (left_over n m r c whole alike)
    ∙ mul_assoc (r % 2 ^ m) 2 (2 ^ n)
    ∙ ap (λ (p : ℕ). r % 2 ^ m * p) (sym (pow-succ' 2 n))

pub by_byte : (r b : ℕ) → r < 2 ^ 16 → after_byte r b ≡ bit_xor (r % 2 ^ 8 * 2 ^ 8) (after_byte 0 (bit_xor (r / 2 ^ 8) b))
unfolding after_byte
by_byte r b h =
    let high = r / 2 ^ 8 in
    let x = bit_xor high b in
    let same : bit_xor high x ≡ b = sym (xor_assoc high high b) ∙ ap (λ (y : ℕ). bit_xor y b) (xor_self high) in
    ap₂ (after_bits 8) (sym (xor_zero_r r)) (sym same)
    ∙ after_bits_linear 8 r 0 high x h (lit< tt)
    ∙ ap (λ (y : ℕ). bit_xor y (after_bits 8 0 x)) (moves_up 8 8 r high refl h (sym (mod-eq_of_lt (omega arith))))
