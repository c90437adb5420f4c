-- The abort codes of CiA 301: one list of cases, numbers and words.
use Rattle.std.specs.Prelude.{◌≡◌, ℕ, Bool, true, false, cond, List, [], ◌∷◌, codes, ◌==◌, refl}
use Rattle.wire.specs.CodeNumbers.{is_listed}
use Rattle.wire.specs.declared.abort_code.AbortCode.{AbortCode}
use Rattle.wire.specs.declared.abort_code.AbortCode.TheVariants.{ToggleNotAlternated, TimedOut, UnknownCommand, InvalidBlockSize, InvalidSequenceNumber, CrcError, OutOfMemory, WriteOnly, ReadOnly, NoObject, LengthMismatch, LengthTooHigh, LengthTooLow, NoSubindex, InvalidValue, GeneralError, Other}

-- what is listed for a code
pub record Listed : Type 0 where
  pub number : ℕ
  pub words : List ℕ

abbrev pub listed : AbortCode → Listed
listed ToggleNotAlternated = record { number = 0x0503_0000; words = codes "toggle bit not alternated" }
listed TimedOut = record { number = 0x0504_0000; words = codes "SDO protocol timed out" }
listed UnknownCommand = record { number = 0x0504_0001; words = codes "command specifier not valid or unknown" }
listed InvalidBlockSize = record { number = 0x0504_0002; words = codes "invalid block size" }
listed InvalidSequenceNumber = record { number = 0x0504_0003; words = codes "invalid sequence number" }
listed CrcError = record { number = 0x0504_0004; words = codes "CRC error" }
listed OutOfMemory = record { number = 0x0504_0005; words = codes "out of memory" }
listed WriteOnly = record { number = 0x0601_0001; words = codes "attempt to read a write-only object" }
listed ReadOnly = record { number = 0x0601_0002; words = codes "attempt to write a read-only object" }
listed NoObject = record { number = 0x0602_0000; words = codes "object does not exist in the object dictionary" }
listed LengthMismatch = record { number = 0x0607_0010; words = codes "length of the data does not match" }
listed LengthTooHigh = record { number = 0x0607_0012; words = codes "length of the data too high" }
listed LengthTooLow = record { number = 0x0607_0013; words = codes "length of the data too low" }
listed NoSubindex = record { number = 0x0609_0011; words = codes "subindex does not exist" }
listed InvalidValue = record { number = 0x0609_0030; words = codes "invalid value for the parameter" }
listed GeneralError = record { number = 0x0800_0000; words = codes "general error" }
listed (Other o) = record { number = o.number; words = codes "code not listed" }

abbrev pub number : AbortCode → ℕ
number c = (listed c).number

abbrev pub words : AbortCode → List ℕ
words c = (listed c).words

-- the cases that have a row of their own
abbrev pub rows : List AbortCode
rows = ToggleNotAlternated ∷ TimedOut ∷ UnknownCommand ∷ InvalidBlockSize ∷ InvalidSequenceNumber ∷ CrcError ∷ OutOfMemory ∷ WriteOnly ∷ ReadOnly ∷ NoObject ∷ LengthMismatch ∷ LengthTooHigh ∷ LengthTooLow ∷ NoSubindex ∷ InvalidValue ∷ GeneralError ∷ []

-- the first of some cases that has a number, else another
abbrev pub code_among : List AbortCode → AbortCode → ℕ → AbortCode
code_among [] other n = other
code_among (c ∷ cs) other n = cond (n == number c) c (code_among cs other n)

-- the code of a number, by whether it is listed
abbrev pub code_by : (n : ℕ) (b : Bool) → is_listed n ≡ b → AbortCode
code_by n true h = code_among rows GeneralError n
code_by n false h = Other (record { number = n; unlisted = h })

unfoldable pub code : ℕ → AbortCode
code n = code_by n (is_listed n) refl

-- every number is that of its code, and every code is that of its number
abbrev pub CodesReadBack : Type 0
CodesReadBack = ((n : ℕ) → number (code n) ≡ n) × ((c : AbortCode) → code (number c) ≡ c)
