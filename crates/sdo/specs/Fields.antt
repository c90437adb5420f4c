-- The fields of a frame's eight bytes b0 to b7. Numbers of several bytes stand with the lowest byte first.
use Rattle.std.specs.Prelude.{ℕ, ◌+◌, ◌*◌, ◌/◌, ◌%◌, Bool, cond, List, [], ◌∷◌, ◌++◌, ◌==◌, slice_index}
use Rattle.wire.specs.AbortCodes.{number, code}
use Rattle.wire.specs.declared.abort_code.AbortCode.{AbortCode}
use Rattle.wire.specs.declared.multiplexor.Multiplexor.{Multiplexor}

-- byte k of a frame
abbrev pub b : ℕ → List ℕ → ℕ
b k bytes = slice_index bytes k

-- bit k of a byte
abbrev pub bit0 : ℕ → Bool
bit0 n = n % 2 == 1

abbrev pub bit1 : ℕ → Bool
bit1 n = n / 2 % 2 == 1

abbrev pub bit2 : ℕ → Bool
bit2 n = n / 4 % 2 == 1

abbrev pub bit4 : ℕ → Bool
bit4 n = n / 16 % 2 == 1

abbrev pub bit7 : ℕ → Bool
bit7 n = n / 128 % 2 == 1

-- a bit that is set or not, as a number
abbrev pub set_bit : Bool → ℕ
set_bit x = cond x 1 0

-- the kind of a frame: b0 divided by 32
abbrev pub kind : List ℕ → ℕ
kind bytes = b 0 bytes / 32

-- a multiplexor in b1 to b3
abbrev pub multiplexor_bytes : Multiplexor → List ℕ
multiplexor_bytes m = m.index % 256 ∷ m.index / 256 % 256 ∷ m.subindex ∷ []

abbrev pub multiplexor_in : List ℕ → Multiplexor
multiplexor_in bytes = record { index = b 1 bytes + b 2 bytes * 256; subindex = b 3 bytes }

-- a number in b4 to b7
abbrev pub number_bytes : ℕ → List ℕ
number_bytes n = n % 256 ∷ n / 256 % 256 ∷ n / 65536 % 256 ∷ n / 16777216 % 256 ∷ []

abbrev pub number_in : List ℕ → ℕ
number_in bytes = b 4 bytes + b 5 bytes * 256 + b 6 bytes * 65536 + b 7 bytes * 16777216

abbrev pub last_four : List ℕ → List ℕ
last_four bytes = b 4 bytes ∷ b 5 bytes ∷ b 6 bytes ∷ b 7 bytes ∷ []

-- b1 to b7
abbrev pub last_seven : List ℕ → List ℕ
last_seven bytes = b 1 bytes ∷ b 2 bytes ∷ b 3 bytes ∷ last_four bytes

-- a frame that says all in b0
abbrev pub bare : ℕ → List ℕ
bare command = command ∷ 0 ∷ 0 ∷ 0 ∷ 0 ∷ 0 ∷ 0 ∷ 0 ∷ []

-- an abort, the same in both directions
abbrev pub abort_bytes : Multiplexor → AbortCode → List ℕ
abort_bytes m c = 0x80 ∷ (multiplexor_bytes m ++ number_bytes (number c))

abbrev pub abort_code_in : List ℕ → AbortCode
abort_code_in bytes = code (number_in bytes)
