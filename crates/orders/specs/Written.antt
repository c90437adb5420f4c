-- Orders as text in one plain form: a method and a blank, or neither; a multiplexor; digits in capitals, one blank before each byte, a line end (10) after each order.
-- A line and a text in this form are read as the orders that they were written from.
use Rattle.std.specs.Prelude.{◌≡◌, ℕ, ◌^◌, ◌<◌, ◌≤◌, true, List, [], ◌∷◌, ◌++◌, map, flat_map, length, codes, Some, None, Option, All}
use Rattle.wire.specs.Texts.{hex_byte, multiplexor_text}
use Rattle.wire.specs.declared.multiplexor.Multiplexor.{Multiplexor}
use Rattle.master.specs.declared.method.Method.{Method}
use Rattle.master.specs.Methods.{takes}
use Rattle.orders.specs.Lines.{longest, ordered, line_meaning}
use Rattle.orders.specs.Pieces.{lines}
use Rattle.orders.specs.Texts.{orders_in, bad_in}
use Rattle.orders.specs.Methods.{name_of, method_for}

-- bytes, with a blank before each
abbrev pub bytes_written : List ℕ → List ℕ
bytes_written bs = flat_map (λ b. codes " " ++ hex_byte b) bs

-- bytes, with a blank between two
abbrev pub bytes_alone : List ℕ → List ℕ
bytes_alone [] = []
bytes_alone (b ∷ bs) = hex_byte b ++ bytes_written bs

-- a line with the name of a method before it, where one is named
abbrev pub named_before : Option Method → List ℕ → List ℕ
named_before None line = line
named_before (Some t) line = name_of t ++ 32 ∷ line

abbrev pub written : Option Method → Multiplexor → List ℕ → List ℕ
written named m v = named_before named (multiplexor_text m ++ bytes_written v)

abbrev pub text_written : List (Option Method × Multiplexor × List ℕ) → List ℕ
text_written [] = []
text_written (o ∷ os) = written o.0 o.1 o.2 ++ 10 ∷ text_written os

-- what an order is read as: a method that is not named is the one for the length
abbrev pub read_as : Option Method × Multiplexor × List ℕ → Method × Multiplexor × List ℕ
read_as o = (method_for o.0 o.2, o.1, o.2)

-- an order that a line can hold
pub record Sound (named : Option Method) (m : Multiplexor) (v : List ℕ) : Type 0 where
  pub index : m.index < 2 ^ 16
  pub subindex : m.subindex < 2 ^ 8
  pub bytes : All (λ b. b < 2 ^ 8) v
  pub some : 0 < length v
  pub most : length v ≤ longest
  pub room : takes (method_for named v) (length v) ≡ true

abbrev pub LinesReadBack : Type 0
LinesReadBack = (named : Option Method) (m : Multiplexor) (v : List ℕ) → Sound named m v → line_meaning (written named m v) ≡ ordered (method_for named v) m v

abbrev pub TextsReadBack : Type 0
TextsReadBack = (os : List (Option Method × Multiplexor × List ℕ)) → All (λ o. Sound o.0 o.1 o.2) os → (orders_in (lines (text_written os)) ≡ map read_as os) × (bad_in 1 (lines (text_written os)) ≡ [])
