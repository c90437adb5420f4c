-- The three accesses: their numbers, and what each allows.
use Rattle.std.specs.Prelude.{ℕ, Bool, true, false}
use Rattle.dictionary.specs.declared.access.Access.{Access}
use Rattle.dictionary.specs.declared.access.Access.TheVariants.{ReadOnly, WriteOnly, ReadWrite}

-- what is listed for an access
pub record Listed : Type 0 where
  pub number : ℕ
  pub reads : Bool
  pub writes : Bool

abbrev pub listed : Access → Listed
listed ReadOnly = record { number = 1; reads = true; writes = false }
listed WriteOnly = record { number = 2; reads = false; writes = true }
listed ReadWrite = record { number = 3; reads = true; writes = true }

abbrev pub number : Access → ℕ
number a = (listed a).number

abbrev pub reads : Access → Bool
reads a = (listed a).reads

abbrev pub writes : Access → Bool
writes a = (listed a).writes
