-- Numbers as scripts and command lines write them: in digits of a base, the highest first.
use Rattle.std.specs.Prelude.{ℕ, ◌+◌, ◌*◌, ◌^◌, cond, ◌&&◌, List, [], ◌∷◌, length, Some, None, Option, ◌==◌, nat_lt, option_and_then}
use Rattle.std.specs.Char.{digit_value}

-- a number with one digit more, if it has 64 bits
abbrev pub with_digit : ℕ → ℕ → ℕ → Option ℕ
with_digit base n b = cond (nat_lt (digit_value b) base && nat_lt (n * base + digit_value b) (2 ^ 64)) (Some (n * base + digit_value b)) None

-- the number of which n is read, and digits are left
abbrev pub number_after : ℕ → ℕ → List ℕ → Option ℕ
number_after base n [] = Some n
number_after base n (b ∷ bs) = option_and_then (λ more. number_after base more bs) (with_digit base n b)

-- the number that digits write
abbrev pub number_in : ℕ → List ℕ → Option ℕ
number_in base w = number_after base 0 w

-- the pattern that exactly 16 hex digits write
abbrev pub pattern_in : List ℕ → Option ℕ
pattern_in w = cond (length w == 16) (number_in 16 w) None
