-- What is known of check values without computing the register by hand.
use Rattle.std.specs.Prelude.{◌≡◌, ℕ, ◌/◌, ◌%◌, List, [], ◌∷◌, ◌++◌, codes}
use Rattle.crc.specs.Registers.{crc}

-- no bytes
abbrev pub NoneIsZero : Type 0
NoneIsZero = crc [] ≡ 0

-- the bytes 31 32 .. 39
abbrev pub DigitsAreKnown : Type 0
DigitsAreKnown = crc (codes "123456789") ≡ 0x31c3

-- bytes, and then their check value, its high byte first
abbrev pub checked : List ℕ → List ℕ
checked bs = bs ++ (crc bs / 256) ∷ (crc bs % 256) ∷ []

-- what is sent with its check value has the check value 0
abbrev pub CheckedIsZero : Type 0
CheckedIsZero = (bs : List ℕ) → crc (checked bs) ≡ 0
