-- The verdict on a write and on a read: the first test that applies, in the order in which they stand here.
use Rattle.std.specs.Prelude.{ℕ, Bool, true, false, cond, not, List, [], ◌∷◌, ◌++◌, length, Some, None, Option, nat_lt}
use Rattle.wire.specs.declared.multiplexor.Multiplexor.{Multiplexor}
use Rattle.wire.specs.declared.abort_code.AbortCode.{AbortCode}
use Rattle.wire.specs.declared.abort_code.AbortCode.TheVariants.{NoObject, NoSubindex, ReadOnly, WriteOnly, LengthTooLow, LengthTooHigh, InvalidValue}
use Rattle.dictionary.specs.Accesses.{reads, writes}
use Rattle.dictionary.specs.Entries.{Entry, entry_at, has_index}

-- the first of some tests that applies
abbrev pub first_of : {C : Type 0} → List (Bool × C) → Option C
first_of [] = None
first_of (t ∷ ts) = cond t.0 (Some t.1) (first_of ts)

-- what is said of an entry, where there is one
abbrev pub of_entry : Option Entry → (Entry → Bool) → Bool
of_entry None p = false
of_entry (Some e) p = p e

abbrev pub is_there : Option Entry → Bool
is_there None = false
is_there (Some e) = true

-- the entry is there
abbrev pub presence : List Entry → Multiplexor → List (Bool × AbortCode)
presence d m =
    (not (has_index m.index d), NoObject)
    ∷ (not (is_there (entry_at m d)), NoSubindex)
    ∷ []

abbrev pub write_access : List Entry → Multiplexor → List (Bool × AbortCode)
write_access d m = (of_entry (entry_at m d) (λ e. not (writes e.access)), ReadOnly) ∷ []

abbrev pub read_access : List Entry → Multiplexor → List (Bool × AbortCode)
read_access d m = (of_entry (entry_at m d) (λ e. not (reads e.access)), WriteOnly) ∷ []

-- a length fits the entry
abbrev pub fitting : List Entry → Multiplexor → ℕ → List (Bool × AbortCode)
fitting d m n =
    (of_entry (entry_at m d) (λ e. nat_lt n e.shortest), LengthTooLow)
    ∷ (of_entry (entry_at m d) (λ e. nat_lt e.longest n), LengthTooHigh)
    ∷ []

-- the entry admits a value
abbrev pub admission : List Entry → Multiplexor → List ℕ → List (Bool × AbortCode)
admission d m v = (of_entry (entry_at m d) (λ e. not (e.admits v)), InvalidValue) ∷ []

abbrev pub write_verdict : List Entry → Multiplexor → List ℕ → Option AbortCode
write_verdict d m v = first_of (presence d m ++ (write_access d m ++ (fitting d m (length v) ++ admission d m v)))

abbrev pub read_verdict : List Entry → Multiplexor → Option AbortCode
read_verdict d m = first_of (presence d m ++ read_access d m)

-- the start of a write is judged before its value is there: by the same tests but for admission, and but for the length where that is unknown
abbrev pub fitting_size : List Entry → Multiplexor → Option ℕ → List (Bool × AbortCode)
fitting_size d m None = []
fitting_size d m (Some n) = fitting d m n

abbrev pub start_verdict : List Entry → Multiplexor → Option ℕ → Option AbortCode
start_verdict d m size = first_of (presence d m ++ (write_access d m ++ fitting_size d m size))
