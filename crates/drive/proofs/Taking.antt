-- Nothing speaks against bytes exactly where they are as many as they should be and stand for a number that is admitted.
use Rattle.std.proofs.Common.{◌≡◌, ℕ, Bool, true, cond, not, ltb, ◌⊎◌, length, ℤ, pos, negsuc, Some, None, Option, ap, ⊎_elim, arith}
use Rattle.std.proofs.lemmas.Bool.{false≢true}
use Rattle.std.proofs.lemmas.Bool.Decides.{nat_tests}
use Rattle.wire.specs.declared.abort_code.AbortCode.{AbortCode}
use Rattle.wire.specs.declared.abort_code.AbortCode.TheVariants.{LengthTooLow, LengthTooHigh, InvalidValue}
use Rattle.drive.specs.Bytes.{signed_in, unsigned_in}
use Rattle.drive.specs.Laws.{ModeTaken, AccelerationTaken}
use Rattle.drive.specs.Numbers.{admits_mode, admits_acceleration}

-- the verdict on n bytes for an entry that has k and may be written, where the number is admitted or not
abbrev verdict : ℕ → ℕ → Bool → Option AbortCode
verdict n k admitted = cond (ltb n k) (Some LengthTooLow) (cond (ltb k n) (Some LengthTooHigh) (cond (not admitted) (Some InvalidValue) None))

fitting : (n k : ℕ) (b : Bool) → verdict n k b ≡ None → n ≡ k
fitting n k b h = grind (arith, nat_tests)

admitted : (n k : ℕ) (b : Bool) → verdict n k b ≡ None → b ≡ true
admitted n k b h = grind (arith, nat_tests)

taken : (n k : ℕ) (b : Bool) → n ≡ k → b ≡ true → verdict n k b ≡ None
taken n k b e h = grind (arith, nat_tests)

-- the admitted modes by their numbers
abbrev Named : ℤ → Type 0
Named n = (n ≡ pos 1) ⊎ ((n ≡ pos 3) ⊎ (n ≡ pos 6))

named : (n : ℤ) → admits_mode n ≡ true → Named n
named (pos n) h = grind (arith, nat_tests)
named (negsuc n) h = absurd (false≢true h)

admits_named : (n : ℤ) → Named n → admits_mode n ≡ true
admits_named n = ⊎_elim (ap admits_mode) (⊎_elim (ap admits_mode) (ap admits_mode))

pub mode_taken : ModeTaken
mode_taken d v =
    let b = admits_mode (signed_in v) in (
      λ h. record { one = fitting (length v) 1 b h; number = named (signed_in v) (admitted (length v) 1 b h) },
      λ m. taken (length v) 1 b m.one (admits_named (signed_in v) m.number),
    )

pub acceleration_taken : AccelerationTaken
acceleration_taken d v =
    let b = admits_acceleration (unsigned_in v) in (
      λ h. let k = admitted (length v) 4 b h in record { four = fitting (length v) 4 b h; low = grind (arith, nat_tests); high = grind (arith, nat_tests) },
      λ a. taken (length v) 4 b a.four (grind (arith, nat_tests)),
    )
