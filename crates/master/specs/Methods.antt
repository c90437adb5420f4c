-- The methods of a write, by the values that they are for.
use Rattle.std.specs.Prelude.{ℕ, Bool, true, cond, nat_le}
use Rattle.master.specs.declared.method.Method.{Method}
use Rattle.master.specs.declared.method.Method.TheVariants.{Expedited, Segmented, Block}

-- the most bytes that go with a start
abbrev pub most_expedited : ℕ
most_expedited = 4

-- the most bytes that go in segments where no method is chosen
abbrev pub most_segmented : ℕ
most_segmented = 56

-- the method of so many bytes where none is chosen
abbrev pub fitting : ℕ → Method
fitting n = cond (nat_le n most_expedited) Expedited (cond (nat_le n most_segmented) Segmented Block)

-- whether a method has room for so many bytes
abbrev pub takes : Method → ℕ → Bool
takes Expedited n = nat_le n most_expedited
takes Segmented n = true
takes Block n = true
