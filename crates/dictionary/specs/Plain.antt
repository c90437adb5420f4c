-- The entries that a table holds: each admits exactly the byte strings whose length fits.
use Rattle.std.specs.Prelude.{ℕ, Bool, not, ◌&&◌, List, [], ◌∷◌, length, Some, None, Option, nat_le, nat_lt}
use Rattle.wire.specs.declared.multiplexor.Multiplexor.{Multiplexor}
use Rattle.wire.specs.declared.abort_code.AbortCode.{AbortCode}
use Rattle.wire.specs.declared.abort_code.AbortCode.TheVariants.{ReadOnly, LengthTooLow, LengthTooHigh}
use Rattle.dictionary.specs.declared.attributes.Attributes.{Attributes}
use Rattle.dictionary.specs.Accesses.{writes}
use Rattle.dictionary.specs.Entries.{Entry}
use Rattle.dictionary.specs.Verdicts.{first_of}

-- a number of bytes within the shortest and the longest length
abbrev pub fits : Attributes → ℕ → Bool
fits a n = nat_le a.shortest n && nat_le n a.longest

-- lengths in order within 1 to 1,024, and a number of bytes that fits them
abbrev pub lawful_lengths : Attributes → ℕ → Bool
lawful_lengths a n = nat_le 1 a.shortest && (nat_le a.shortest a.longest && (nat_le a.longest 1024 && fits a n))

-- an entry with some attributes and a value
abbrev pub plain : Multiplexor → Attributes → List ℕ → Entry
plain m a v = record { at = m; access = a.access; shortest = a.shortest; longest = a.longest; value = v; admits = λ w. fits a (length w) }

-- what speaks against writing some number of bytes to such an entry, in this order
abbrev pub objections : Attributes → ℕ → List (Bool × AbortCode)
objections a n =
    (not (writes a.access), ReadOnly)
    ∷ (nat_lt n a.shortest, LengthTooLow)
    ∷ (nat_lt a.longest n, LengthTooHigh)
    ∷ []

abbrev pub objection : Attributes → ℕ → Option AbortCode
objection a n = first_of (objections a n)

-- what speaks against the start of a write whose length is known, or is not
abbrev pub start_objection : Attributes → Option ℕ → Option AbortCode
start_objection a None = first_of ((not (writes a.access), ReadOnly) ∷ [])
start_objection a (Some n) = objection a n
