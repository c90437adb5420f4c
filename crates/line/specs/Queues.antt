-- What a queue holds.
use Rattle.std.specs.Prelude.{ℕ, List, ◌++◌, take, drop}

-- a ring of places, read from one of them on and round
abbrev pub read_from : {A : Type 0} → ℕ → List A → List A
read_from first items = drop first items ++ take first items

-- so many items of a ring, the first in first
abbrev pub held : {A : Type 0} → ℕ → ℕ → List A → List A
held first count items = take count (read_from first items)
