-- The ranges of the numbers in messages.
use Rattle.std.specs.Prelude.{ℕ, cond, ◌&&◌, Some, None, Option, nat_le}

-- a number within two bounds
abbrev pub in_range : ℕ → ℕ → ℕ → Option ℕ
in_range low high n = cond (nat_le low n && nat_le n high) (Some n) None
