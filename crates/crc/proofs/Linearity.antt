-- The register is linear: it takes in sums (without carry) of registers and bytes as it takes in each of them.
use Rattle.std.proofs.Common.{◌≡◌, ℕ, zero, suc, ◌*◌, ◌/◌, ◌%◌, ◌^◌, ◌<◌, true, false, cond, eqb, sym, refl, ap, ◌∙◌, ap₂, le_of_suc-le-suc, not-suc-le-zero, add-zero, arith, lit<, pow_pos}
use lib.Bits.{bit_xor, xor_zero_r, xor_block, xor_assoc, xor_comm, xor_lt, xor_mod, xor_shr}
use Rattle.std.proofs.lemmas.Nat.{mod_below}
use Rattle.crc.specs.Registers.{generator, moved_up, after_bit, bit, after_bits}

-- what holds of 0 and 1 holds of every bit
by_bit : (P : ℕ → Type 0) → P 0 → P 1 → (x : ℕ) → x < 2 → P x
by_bit P p q zero h = p
by_bit P p q (suc zero) h = q
by_bit P p q (suc (suc x)) h = absurd (not-suc-le-zero (le_of_suc-le-suc (le_of_suc-le-suc h)))

xor_shl : (a b k : ℕ) → bit_xor a b * 2 ^ k ≡ bit_xor (a * 2 ^ k) (b * 2 ^ k)
xor_shl a b k = sym (simp add-zero at (xor_block k a b 0 0 (pow_pos k) (pow_pos k)))

xor_swap : (a b c d : ℕ) → bit_xor (bit_xor a b) (bit_xor c d) ≡ bit_xor (bit_xor a c) (bit_xor b d)
xor_swap a b c d =
    xor_assoc a b (bit_xor c d)
    ∙ ap (bit_xor a) (sym (xor_assoc b c d) ∙ ap (λ (x : ℕ). bit_xor x d) (xor_comm b c) ∙ xor_assoc c b d)
    ∙ sym (xor_assoc a c (bit_xor b d))

-- the generator, added by a sum without carry: so many times as the bits t and x differ
added : (s t x : ℕ) → t < 2 → x < 2 → cond (eqb t x) s (bit_xor s generator) ≡ bit_xor s (bit_xor t x * generator)
added s t x ht hx =
    by_bit (λ t. cond (eqb t x) s (bit_xor s generator) ≡ bit_xor s (bit_xor t x * generator))
    (by_bit (λ x. cond (eqb 0 x) s (bit_xor s generator) ≡ bit_xor s (bit_xor 0 x * generator)) (sym (xor_zero_r s)) refl x hx)
    (by_bit (λ x. cond (eqb 1 x) s (bit_xor s generator) ≡ bit_xor s (bit_xor 1 x * generator)) refl (sym (xor_zero_r s)) x hx)
    t
    ht

generator_linear : (x y : ℕ) → x < 2 → y < 2 → bit_xor x y * generator ≡ bit_xor (x * generator) (y * generator)
generator_linear x y hx hy =
    by_bit (λ x. bit_xor x y * generator ≡ bit_xor (x * generator) (y * generator))
    refl
    (by_bit (λ y. bit_xor 1 y * generator ≡ bit_xor (1 * generator) (y * generator)) refl refl y hy)
    x
    hx

moved_linear : (r s : ℕ) → moved_up (bit_xor r s) ≡ bit_xor (moved_up r) (moved_up s)
moved_linear r s = ap (λ (x : ℕ). x % 2 ^ 16) (xor_shl r s 1) ∙ xor_mod (r * 2) (s * 2) 16

-- the bit that falls out of a register
top : (r : ℕ) → r < 2 ^ 16 → r / 2 ^ 15 < 2
top r h = omega arith

-- how much of the generator a bit adds
turn : ℕ → ℕ → ℕ
turn r x = bit_xor (r / 2 ^ 15) x

turn_bit : (r x : ℕ) → r < 2 ^ 16 → x < 2 → turn r x < 2
unfolding turn
turn_bit r x hr hx = xor_lt 1 (r / 2 ^ 15) x (top r hr) hx

after_bit_sum : (r x : ℕ) → r < 2 ^ 16 → x < 2 → after_bit r x ≡ bit_xor (moved_up r) (turn r x * generator)
unfolding after_bit turn
after_bit_sum r x hr hx = added (moved_up r) (r / 2 ^ 15) x (top r hr) hx

turn_linear : (r s x y : ℕ) → turn (bit_xor r s) (bit_xor x y) ≡ bit_xor (turn r x) (turn s y)
unfolding turn
turn_linear r s x y =
    ap (λ (t : ℕ). bit_xor t (bit_xor x y)) (xor_shr r s 15) ∙ xor_swap (r / 2 ^ 15) (s / 2 ^ 15) x y

after_bit_linear : (r s x y : ℕ) → r < 2 ^ 16 → s < 2 ^ 16 → x < 2 → y < 2 → after_bit (bit_xor r s) (bit_xor x y) ≡ bit_xor (after_bit r x) (after_bit s y)
after_bit_linear r s x y hr hs hx hy =
    after_bit_sum (bit_xor r s) (bit_xor x y) (xor_lt 16 r s hr hs) (xor_lt 1 x y hx hy)
    ∙ ap₂ bit_xor
    (moved_linear r s)
    (ap (λ (t : ℕ). t * generator) (turn_linear r s x y) ∙ generator_linear (turn r x) (turn s y) (turn_bit r x hr hx) (turn_bit s y hs hy))
    ∙ xor_swap (moved_up r) (moved_up s) (turn r x * generator) (turn s y * generator)
    ∙ sym (ap₂ bit_xor (after_bit_sum r x hr hx) (after_bit_sum s y hs hy))

pub moved_below : (r : ℕ) → moved_up r < 2 ^ 16
moved_below r = mod_below (r * 2) (2 ^ 16) (pow_pos 16)

pub after_bit-below : (r x : ℕ) → after_bit r x < 2 ^ 16
unfolding after_bit
after_bit-below r x =
    elim (eqb (r / 2 ^ 15) x) as (λ t. cond t (moved_up r) (bit_xor (moved_up r) generator) < 2 ^ 16) [
      | true ↦ moved_below r
      | false ↦ xor_lt 16 (moved_up r) generator (moved_below r) (lit< tt)
    ]

bit_below : (n b : ℕ) → bit n b < 2
bit_below n b = mod_below (b / 2 ^ n) 2 (lit< tt)

bit_linear : (n b c : ℕ) → bit n (bit_xor b c) ≡ bit_xor (bit n b) (bit n c)
bit_linear n b c = ap (λ (x : ℕ). x % 2) (xor_shr b c n) ∙ xor_mod (b / 2 ^ n) (c / 2 ^ n) 1

pub after_bits_linear : (n r s b c : ℕ) → r < 2 ^ 16 → s < 2 ^ 16 → after_bits n (bit_xor r s) (bit_xor b c) ≡ bit_xor (after_bits n r b) (after_bits n s c)
after_bits_linear zero r s b c hr hs = refl
after_bits_linear (suc n) r s b c hr hs =
    ap (λ (x : ℕ). after_bits n x (bit_xor b c))
    (ap (after_bit (bit_xor r s)) (bit_linear n b c) ∙ after_bit_linear r s (bit n b) (bit n c) hr hs (bit_below n b) (bit_below n c))
    ∙ after_bits_linear n (after_bit r (bit n b)) (after_bit s (bit n c)) b c (after_bit-below r (bit n b)) (after_bit-below s (bit n c))
