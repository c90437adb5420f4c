-- The numbers of the refusals that dictionaries give, and what a master is told.
use Rattle.std.specs.Prelude.{ℕ, Some, None, Option}
use Rattle.wire.specs.declared.abort_code.AbortCode.{AbortCode}
use Rattle.wire.specs.declared.abort_code.AbortCode.TheVariants.{OutOfMemory}
use Rattle.dictionary.specs.declared.refusal.AddRefusal.{AddRefusal}
use Rattle.dictionary.specs.declared.refusal.AddRefusal.TheVariants.{Full, NotAbove, Unlawful, NoRoom}
use Rattle.dictionary.specs.declared.refusal.CopyRefusal.{CopyRefusal}
use Rattle.dictionary.specs.declared.refusal.CopyRefusal.TheVariants.{Verdict, ShortBuffer}

abbrev pub add_number : AddRefusal → ℕ
add_number Full = 8
add_number NotAbove = 9
add_number Unlawful = 10
add_number NoRoom = 11

-- a verdict has a code and no number
abbrev pub copy_number : CopyRefusal → Option ℕ
copy_number (Verdict c) = None
copy_number ShortBuffer = Some 12

-- the abort code of a copy that was refused
abbrev pub code_of : CopyRefusal → AbortCode
code_of (Verdict c) = c
code_of ShortBuffer = OutOfMemory
