-- What is nearest to a number lies within 1 to 127.
use Rattle.std.proofs.Common.{ℕ, ◌≤◌, arith}
use Rattle.wire.specs.Ranges.{nearest}

pub nearest-low : (n : ℕ) → 1 ≤ nearest n
nearest-low n = omega arith

pub nearest-high : (n : ℕ) → nearest n ≤ 127
nearest-high n = omega arith
