-- The numbers that bytes stand for, and the bytes of a number. The lowest byte comes first; a signed byte from 128 on is
-- that byte less 256.
use Rattle.std.specs.Prelude.{ℕ, ◌+◌, ◌*◌, ◌/◌, ◌%◌, List, [], ◌∷◌, ℤ, slice_index}
use Rattle.std.specs.Int.{w8}
use Rattle.std.proofs.Common.{to_z, of_z}

-- one byte, signed
abbrev pub signed_in : List ℕ → ℤ
signed_in v = to_z w8 (slice_index v 0)

abbrev pub signed_bytes : ℤ → List ℕ
signed_bytes n = of_z w8 n ∷ []

-- four bytes, unsigned
abbrev pub unsigned_in : List ℕ → ℕ
unsigned_in v = slice_index v 0 + slice_index v 1 * 256 + slice_index v 2 * 65536 + slice_index v 3 * 16777216

abbrev pub unsigned_bytes : ℕ → List ℕ
unsigned_bytes n = n % 256 ∷ n / 256 % 256 ∷ n / 65536 % 256 ∷ n / 16777216 % 256 ∷ []
