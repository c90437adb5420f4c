-- A turn of a pattern by shifts is the turn by numbers, and the bits come to the lowest place one after the other.
use Rattle.std.proofs.Common.{◌≡◌, ℕ, zero, suc, ◌+◌, ◌-◌, ◌*◌, ◌/◌, ◌%◌, ◌^◌, ◌<◌, ◌≤◌, eqb, sym, ap, ◌∙◌, ⊎_elim, mul_assoc, arith}
use Rattle.std.proofs.Math.Nat.{add-mul-div_right, add-mul-mod_self_right}
use Rattle.std.specs.Int.Bits.{bit_or}
use Rattle.std.proofs.lemmas.Nat.{div_below, or_comm, or_shifted, pow-add, pow_pos, shr-shr}
use Rattle.std.proofs.lemmas.Bool.{cases_lt}
use Rattle.line.specs.Patterns.{turned, bit, BitsInTurn}

pub turned_right : (p : ℕ) → p < 2 ^ 64 → bit_or (p / 2) (p * 2 ^ 63 % 2 ^ 64) ≡ turned p
turned_right p fits =
    let low : p * 2 ^ 63 % 2 ^ 64 ≡ p % 2 * 2 ^ 63 = omega arith in
    let joined = or_shifted (p % 2) 63 (p / 2) (omega arith) in
    ap (bit_or (p / 2)) low ∙ or_comm (p / 2) (p % 2 * 2 ^ 63) ∙ joined ∙ omega arith

-- each bit comes one place down
bit_below : (i p : ℕ) → i < 63 → bit i (turned p) ≡ bit (suc i) p
bit_below i p h =
    let k = 62 - i in
    let places : 63 ≡ k + (1 + i) = omega arith in
    let power : 2 ^ 63 ≡ 2 ^ k * (2 * 2 ^ i) = ap (λ (n : ℕ). 2 ^ n) places ∙ pow-add 2 k (1 + i) ∙ ap (λ (n : ℕ). 2 ^ k * n) (pow-add 2 1 i) in
    let high : p % 2 * 2 ^ 63 ≡ p % 2 * 2 ^ k * 2 * 2 ^ i = ap (λ (n : ℕ). p % 2 * n) power ∙ simp mul_assoc in
    let down : turned p / 2 ^ i ≡ p / 2 / 2 ^ i + p % 2 * 2 ^ k * 2 = ap (λ (n : ℕ). (p / 2 + n) / 2 ^ i) high ∙ add-mul-div_right (p / 2) (p % 2 * 2 ^ k * 2) (pow_pos i) in
    let even : turned p / 2 ^ i % 2 ≡ p / 2 / 2 ^ i % 2 = ap (λ (n : ℕ). n % 2) down ∙ add-mul-mod_self_right (p / 2 / 2 ^ i) (p % 2 * 2 ^ k) 2 in
    let next : 1 + i ≡ suc i = omega arith in
    ap (λ (n : ℕ). eqb n 1) (even ∙ ap (λ (n : ℕ). n % 2) (shr-shr p 1 i ∙ ap (λ (n : ℕ). p / 2 ^ n) next))

-- and the lowest to the highest place
bit_round : (p : ℕ) → p < 2 ^ 64 → bit 63 (turned p) ≡ bit 0 p
bit_round p fits =
    let up = add-mul-div_right (p / 2) (p % 2) (pow_pos 63) in
    let none : p / 2 / 2 ^ 63 < 1 = div_below (p / 2) (2 ^ 63) 1 (pow_pos 63) (omega arith) in
    let lowest : turned p / 2 ^ 63 ≡ p % 2 = up ∙ omega (arith, none) in
    let same : turned p / 2 ^ 63 % 2 ≡ p / 1 % 2 = ap (λ (n : ℕ). n % 2) lowest ∙ omega arith in
    ap (λ (n : ℕ). eqb n 1) same

pub bits_in_turn : BitsInTurn
bits_in_turn zero p fits =
    let same : p % 2 ≡ p / 1 % 2 = omega arith in
    ap (λ (n : ℕ). eqb n 1) same
bits_in_turn (suc n) p fits =
    bits_in_turn n (turned p) (omega arith)
    ∙ ⊎_elim
    (λ (h : n % 64 < 63).
    let next : suc n % 64 ≡ suc (n % 64) = omega arith in
    bit_below (n % 64) p h ∙ ap (λ (i : ℕ). bit i p) (sym next))
    (λ (h : 63 ≤ n % 64).
    let last : n % 64 ≡ 63 = omega arith in
    let next : suc n % 64 ≡ 0 = omega arith in
    ap (λ (i : ℕ). bit i (turned p)) last ∙ bit_round p fits ∙ ap (λ (i : ℕ). bit i p) (sym next))
    (cases_lt (n % 64) 63)
