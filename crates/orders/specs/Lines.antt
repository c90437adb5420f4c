-- What a line of orders means: nothing, an order, or the first thing wrong with it.
-- A line is read from left to right: a comment or a blank line is passed over; then comes a method, or none, then the multiplexor, then one byte after another.
use Rattle.std.specs.Prelude.{◌≡◌, ℕ, ◌+◌, ◌-◌, Bool, true, false, cond, ◌⊎◌, List, [], ◌∷◌, ◌++◌, length, take, Some, None, Ok, Err, vec_items, Option, Result, ◌==◌, slice_index}
use Rattle.wire.specs.declared.multiplexor.Multiplexor.{Multiplexor}
use Rattle.master.specs.Methods.{takes}
use Rattle.orders.specs.declared.fault.Fault.{Fault}
use Rattle.orders.specs.declared.fault.Fault.TheVariants.{NotMultiplexor, NoBytes, NotByte, TooManyBytes, NotExpedited, OutOfMemory}
use Rattle.orders.specs.declared.order.Order.{Order}
use Rattle.master.specs.declared.method.Method.{Method}
use Rattle.orders.specs.Hex.{byte_in, multiplexor_in}
use Rattle.orders.specs.Pieces.{words}
use Rattle.orders.specs.Methods.{method_named, method_for}

pub data Meaning : Type 0 where
  passed_over : Meaning
  ordered : Method → Multiplexor → List ℕ → Meaning
  faulty : Fault → Meaning

-- the most bytes that an order may have
abbrev pub longest : ℕ
longest = 1024

-- a comment starts with # (35)
abbrev pub is_comment : List ℕ → Bool
is_comment line = slice_index line 0 == 35

-- a line but for a carriage return (13) at its end
abbrev pub without_return : List ℕ → List ℕ
without_return line = cond (slice_index line (length line - 1) == 13) (take (length line - 1) line) line

-- one more byte, unless it is none or one too many
abbrev pub with_byte : List ℕ → Option ℕ → Result (List ℕ) Fault
with_byte bytes None = Err (NotByte (length bytes + 1))
with_byte bytes (Some b) = cond (length bytes == longest) (Err TooManyBytes) (Ok (bytes ++ b ∷ []))

abbrev pub and_then : Result (List ℕ) Fault → (List ℕ → Result (List ℕ) Fault) → Result (List ℕ) Fault
and_then (Ok bytes) next = next bytes
and_then (Err f) next = Err f

-- the bytes so far, and those that words write
abbrev pub bytes_in : List ℕ → List (List ℕ) → Result (List ℕ) Fault
bytes_in bytes [] = Ok bytes
bytes_in bytes (w ∷ ws) = and_then (with_byte bytes (byte_in w)) (λ more. bytes_in more ws)

abbrev pub value_in : List (List ℕ) → Result (List ℕ) Fault
value_in [] = Err NoBytes
value_in (w ∷ ws) = bytes_in [] (w ∷ ws)

-- a value by a method that has room for it
abbrev pub order_by_method : Method → Multiplexor → List ℕ → Meaning
order_by_method t m v = cond (takes t (length v)) (ordered t m v) (faulty NotExpedited)

abbrev pub order_of : Option Method → Multiplexor → Result (List ℕ) Fault → Meaning
order_of named m (Ok v) = order_by_method (method_for named v) m v
order_of named m (Err f) = faulty f

abbrev pub order_at : Option Method → Option Multiplexor → List (List ℕ) → Meaning
order_at named None ws = faulty NotMultiplexor
order_at named (Some m) ws = order_of named m (value_in ws)

abbrev pub order_behind : Option Method → List (List ℕ) → Meaning
order_behind named [] = faulty NotMultiplexor
order_behind named (w ∷ ws) = order_at named (multiplexor_in w) ws

-- the first word is a method, or the multiplexor
abbrev pub order_from : Option Method → List ℕ → List (List ℕ) → Meaning
order_from None w ws = order_behind None (w ∷ ws)
order_from (Some t) w ws = order_behind (Some t) ws

abbrev pub order_in : List (List ℕ) → Meaning
order_in [] = passed_over
order_in (w ∷ ws) = order_from (method_named w) w ws

abbrev pub line_meaning : List ℕ → Meaning
line_meaning line = cond (is_comment line) passed_over (order_in (words (without_return line)))

abbrev pub is_order : Meaning → Bool
is_order passed_over = false
is_order (ordered t m v) = true
is_order (faulty f) = false

-- what was read of an order is what it means; only for an order can memory fail
abbrev pub ReadsOrder : Result Order Fault → Meaning → Type 0
ReadsOrder (Ok o) l = l ≡ ordered o.method o.multiplexor (vec_items o.value)
ReadsOrder (Err f) l = (l ≡ faulty f) ⊎ ((f ≡ OutOfMemory) × (is_order l ≡ true))

-- the same of a line
abbrev pub Reads : Result (Option Order) Fault → Meaning → Type 0
Reads (Ok None) l = l ≡ passed_over
Reads (Ok (Some o)) l = ReadsOrder (Ok o) l
Reads (Err f) l = ReadsOrder (Err f) l
