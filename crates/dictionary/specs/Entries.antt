-- What a dictionary means: a list of entries in strictly rising order of their multiplexors.
use Rattle.std.specs.Prelude.{◌≡◌, ℕ, ◌≤◌, Bool, true, false, cond, List, [], ◌∷◌, length, Some, None, Option, ◌==◌}
use Rattle.wire.specs.declared.multiplexor.Multiplexor.{Multiplexor}
use Rattle.wire.specs.Multiplexors.{same, before}
use Rattle.dictionary.specs.declared.access.Access.{Access}

-- an entry: where it stands, what may be done with it, how long its value may be, its value, and the byte strings that it admits
pub record Entry : Type 0 where
  pub at : Multiplexor
  pub access : Access
  pub shortest : ℕ
  pub longest : ℕ
  pub value : List ℕ
  pub admits : List ℕ → Bool

-- lengths within 1 to 1,024, and a value of such a length
pub record Sound (e : Entry) : Type 0 where
  pub some : 1 ≤ e.shortest
  pub ordered : e.shortest ≤ e.longest
  pub bounded : e.longest ≤ 1024
  pub long_enough : e.shortest ≤ length e.value
  pub short_enough : length e.value ≤ e.longest

-- an entry stands before the first of a list
abbrev pub Leads : Entry → List Entry → Type 0
Leads e [] = Unit {0}
Leads e (f ∷ fs) = before e.at f.at ≡ true

-- what every dictionary keeps: sound entries in strictly rising order
abbrev pub Lawful : List Entry → Type 0
Lawful [] = Unit {0}
Lawful (e ∷ es) = Sound e × Leads e es × Lawful es

-- the entry at a multiplexor
abbrev pub entry_at : Multiplexor → List Entry → Option Entry
entry_at m [] = None
entry_at m (e ∷ es) = cond (same e.at m) (Some e) (entry_at m es)

-- whether some entry has an index
abbrev pub has_index : ℕ → List Entry → Bool
has_index i [] = false
has_index i (e ∷ es) = cond (e.at.index == i) true (has_index i es)

-- an entry with another value
abbrev pub with_value : List ℕ → Entry → Entry
with_value v e = record e { value = v }

-- the list with a value set at a multiplexor, and nothing else changed
abbrev pub put : Multiplexor → List ℕ → List Entry → List Entry
put m v [] = []
put m v (e ∷ es) = cond (same e.at m) (with_value v e ∷ es) (e ∷ put m v es)
