-- What becomes of an entry that is handed to a table: why it is refused, or the table with the entry behind all others.
use Rattle.std.specs.Prelude.{ℕ, ◌+◌, Bool, true, not, List, [], ◌∷◌, ◌++◌, length, Some, None, Option, nat_le, nat_lt}
use Rattle.wire.specs.declared.multiplexor.Multiplexor.{Multiplexor}
use Rattle.wire.specs.Multiplexors.{before}
use Rattle.dictionary.specs.declared.attributes.Attributes.{Attributes}
use Rattle.dictionary.specs.declared.refusal.AddRefusal.{AddRefusal}
use Rattle.dictionary.specs.declared.refusal.AddRefusal.TheVariants.{Full, NotAbove, Unlawful, NoRoom}
use Rattle.dictionary.specs.Entries.{Entry}
use Rattle.dictionary.specs.Verdicts.{first_of}
use Rattle.dictionary.specs.Plain.{plain, lawful_lengths}

-- the multiplexor of the last entry
abbrev pub last_at : List Entry → Option Multiplexor
last_at [] = None
last_at (e ∷ []) = Some e.at
last_at (e ∷ f ∷ fs) = last_at (f ∷ fs)

-- a multiplexor is above another, or there is no other
abbrev pub is_above : Option Multiplexor → Multiplexor → Bool
is_above None m = true
is_above (Some l) m = before l m

-- the bytes that all longest lengths take together
abbrev pub needed : List Entry → ℕ
needed [] = 0
needed (e ∷ es) = e.longest + needed es

-- what is tested of an entry with some attributes and a value, in this order
abbrev pub add_tests : List Entry → Multiplexor → Attributes → List ℕ → List (Bool × AddRefusal)
add_tests d m a v =
    (nat_le 64 (length d), Full)
    ∷ (not (is_above (last_at d) m), NotAbove)
    ∷ (not (lawful_lengths a (length v)), Unlawful)
    ∷ (nat_lt 4096 (needed d + a.longest), NoRoom)
    ∷ []

-- why an entry is refused: the first test that applies
abbrev pub add_refusal : List Entry → Multiplexor → Attributes → List ℕ → Option AddRefusal
add_refusal d m a v = first_of (add_tests d m a v)

abbrev pub add_unless : Option AddRefusal → Entry → List Entry → List Entry
add_unless None e d = d ++ e ∷ []
add_unless (Some c) e d = d

-- the entries afterwards
abbrev pub added : List Entry → Multiplexor → Attributes → List ℕ → List Entry
added d m a v = add_unless (add_refusal d m a v) (plain m a v) d
