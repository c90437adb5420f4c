-- Where in the list of its entries a dictionary has an entry.
use Rattle.std.specs.Prelude.{ℕ, zero, suc, ◌+◌, cond, List, [], ◌∷◌, Some, None, Option}
use Rattle.wire.specs.declared.multiplexor.Multiplexor.{Multiplexor}
use Rattle.wire.specs.Multiplexors.{same}
use Rattle.dictionary.specs.Entries.{Entry, with_value}

-- the place of the entry at a multiplexor, where the first entry has place n
abbrev pub place_from : ℕ → Multiplexor → List Entry → Option ℕ
place_from n m [] = None
place_from n m (e ∷ es) = cond (same e.at m) (Some n) (place_from (n + 1) m es)

-- the place of the entry at a multiplexor, counted from 0
abbrev pub place_at : Multiplexor → List Entry → Option ℕ
place_at m d = place_from 0 m d

-- the list with another value at a place, and nothing else changed
abbrev pub put_at : ℕ → List ℕ → List Entry → List Entry
put_at i v [] = []
put_at zero v (e ∷ es) = with_value v e ∷ es
put_at (suc i) v (e ∷ es) = e ∷ put_at i v es
