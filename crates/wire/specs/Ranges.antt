-- The ranges of the numbers in the format.
use Rattle.std.specs.Prelude.{ℕ, min, max, cond, Some, None, Option, nat_lt}

-- a number itself where it lies within 1 to 127, else the nearer end
abbrev pub nearest : ℕ → ℕ
nearest n = min (max n 1) 127

-- a number of eleven bits
abbrev pub eleven_bits : ℕ → Option ℕ
eleven_bits n = cond (nat_lt n 2048) (Some n) None
