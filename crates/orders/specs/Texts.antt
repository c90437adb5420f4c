-- What a text of orders says: the orders of its lines, and its lines that are none.
use Rattle.std.specs.Prelude.{◌≡◌, ℕ, ◌+◌, cond, List, [], ◌∷◌, ◌++◌, map, Ok, Err, vec_items, vec_len, Result, Vec, ◌==◌}
use Rattle.std.specs.declared.alloc.Global.{Global}
use Rattle.wire.specs.declared.multiplexor.Multiplexor.{Multiplexor}
use Rattle.orders.specs.declared.bad_line.BadLine.{BadLine}
use Rattle.orders.specs.declared.order.Order.{Order}
use Rattle.orders.specs.declared.reading.Reading.{Reading}
use Rattle.master.specs.declared.method.Method.{Method}
use Rattle.orders.specs.Lines.{Meaning, passed_over, ordered, faulty, line_meaning}

-- an order as the method, the multiplexor and the bytes that it holds
abbrev pub content : Order → Method × Multiplexor × List ℕ
content o = (o.method, o.multiplexor, vec_items o.value)

-- the order of a line, if it has one
abbrev pub orders_on : Meaning → List (Method × Multiplexor × List ℕ)
orders_on passed_over = []
orders_on (ordered t m v) = (t, m, v) ∷ []
orders_on (faulty f) = []

-- the line's number and its fault, if it has one
abbrev pub bad_on : ℕ → Meaning → List BadLine
bad_on n passed_over = []
bad_on n (ordered t m v) = []
bad_on n (faulty f) = record { line = n; fault = f } ∷ []

-- the orders of lines, in the lines' order
abbrev pub orders_in : List (List ℕ) → List (Method × Multiplexor × List ℕ)
orders_in [] = []
orders_in (l ∷ ls) = orders_on (line_meaning l) ++ orders_in ls

-- the lines that are none, where the first has number n
abbrev pub bad_in : ℕ → List (List ℕ) → List BadLine
bad_in n [] = []
bad_in n (l ∷ ls) = bad_on n (line_meaning l) ++ bad_in (n + 1) ls

-- a reading with one line more
pub record Adds (n : ℕ) (l : Meaning) (before after : Reading) : Type 0 where
  pub orders : map content (vec_items after.orders) ≡ map content (vec_items before.orders) ++ orders_on l
  pub bad : vec_items after.bad ≡ vec_items before.bad ++ bad_on n l

-- all orders, or all lines that are none where there is one
abbrev pub all_or_none : Reading → Result (Vec Order Global) (Vec BadLine Global)
all_or_none x = cond (vec_len x.bad == 0) (Ok x.orders) (Err x.bad)
