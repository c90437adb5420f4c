-- Transfers over a new bench with the sample dictionary, each begun and carried out behind the others, and how many of them succeeded.
use Rattle.std.specs.Prelude.{◌≡◌, ℕ, zero, suc, ◌+◌, Bool, true, false, cond, List, [], ◌∷◌, ◌++◌, Some, None, Ok, Err, Option, Result}
use Rattle.wire.specs.declared.multiplexor.Multiplexor.{Multiplexor}
use Rattle.dictionary.specs.Samples.{sample_entries}
use Rattle.master.specs.declared.method.Method.{Method}
use Rattle.master.specs.declared.method.Method.TheVariants.{Expedited, Segmented, Block}
use Rattle.master.specs.declared.refusal.BeginRefusal.{BeginRefusal}
use Rattle.master.specs.Calls as order
use Rattle.master.specs.Calls.{Order}
use Rattle.report.specs.declared.refusal.SettleRefusal.{SettleRefusal}
use Rattle.report.specs.declared.report.Outcome.{Outcome}
use Rattle.report.specs.declared.report.Outcome.TheVariants.{Written, Read, Unwritten, Undecided, Unread}
use Rattle.report.specs.declared.report.Report.{Report}
use Rattle.bench.specs.Model.States.{State, fresh}
use Rattle.bench.specs.Law.Runs.{Act, Begin, Serve, Hear, Tick, Settle}
use Rattle.bench.specs.Numbers.{nearest_number, nearest_size}
use Rattle.bench.specs.Tickets.{held_after}
use Rattle.rounds.specs.Rounds.{CarriesOut, Went}

-- the method of a number: 0 expedited, 1 segmented, any other block
abbrev pub method_of : ℕ → Method
method_of zero = Expedited
method_of (suc zero) = Segmented
method_of (suc (suc n)) = Block

abbrev pub is_written : Outcome → Bool
is_written Written = true
is_written (Read n) = false
is_written (Unwritten f) = false
is_written (Undecided f) = false
is_written (Unread f) = false

abbrev pub is_read : Outcome → Bool
is_read Written = false
is_read (Read n) = true
is_read (Unwritten f) = false
is_read (Undecided f) = false
is_read (Unread f) = false

-- whether a report tells such an outcome, if there is one
abbrev pub reports : (Outcome → Bool) → Option Report → Bool
reports such None = false
reports such (Some r) = such r.outcome

-- 1 where the answer to a settle, or an act, tells such an outcome, otherwise 0
abbrev pub answers : (Outcome → Bool) → Result Report SettleRefusal → ℕ
answers such (Ok r) = cond (such r.outcome) 1 0
answers such (Err e) = 0

abbrev pub tells : (Outcome → Bool) → Act → ℕ
tells such (Begin m o r) = 0
tells such (Serve r) = 0
tells such (Hear r) = 0
tells such (Tick r) = 0
tells such (Settle k buffer r after) = answers such r

-- how many settles of some acts told such an outcome
abbrev pub told_in : (Outcome → Bool) → List Act → ℕ
told_in such [] = 0
told_in such (x ∷ xs) = tells such x + told_in such xs

-- a transfer: it is begun while no ticket is out, and carried out with the ticket that it got, if it got one
pub data OneTransfer (m : Multiplexor) (o : Order) : List Act → Type 0 where
  transfer : (begun : Result ℕ BeginRefusal) (report : Option Report) (buffer after : List ℕ) (xs : List Act) → CarriesOut (held_after begun None) report buffer after xs → OneTransfer m o (Begin m o begun ∷ xs)

-- a transfer, and whether it told such an outcome
abbrev pub OneTold : (Outcome → Bool) → Multiplexor → Order → Bool → List Act → Type 0
OneTold such m o told xs = OneTransfer m o xs × (told_in such xs ≡ cond told 1 0)

-- so many transfers of one order
pub data ManyTransfers (m : Multiplexor) (o : Order) : ℕ → List Act → Type 0 where
  none : ManyTransfers m o 0 []
  more : (n : ℕ) (xs ys : List Act) → ManyTransfers m o n xs → OneTransfer m o ys → ManyTransfers m o (n + 1) (xs ++ ys)

-- so many transfers of one order, and how many of them told such an outcome
abbrev pub Counted : (Outcome → Bool) → Multiplexor → Order → ℕ → ℕ → List Act → Type 0
Counted such m o count good xs = ManyTransfers m o count xs × (good ≡ told_in such xs)

-- so many writes, and how many of them told that the value was written
abbrev pub Writes : Multiplexor → Method → List ℕ → ℕ → ℕ → List Act → Type 0
Writes m how v = Counted is_written m (order.Write how v)

-- a write by block, then so many reads, and how many of them told that the entry was read
abbrev pub Reads : Multiplexor → List ℕ → ℕ → ℕ → List Act → Type 0
Reads m v count good zs = (xs : List Act) × (ys : List Act) × OneTransfer m (order.Write Block v) xs × Counted is_read m order.Read count good ys × (zs ≡ xs ++ ys)

-- a new bench with the sample dictionary, whose node has number 5 and takes sub-blocks of 127 segments
abbrev pub new_bench : State
new_bench = fresh sample_entries (nearest_number 5) (nearest_size 127)

-- it went somewhere by events whose acts are as told; what the line lost of their frames is left open
abbrev pub WentFromNew : (List Act → Type 0) → Type 0
WentFromNew told = (last : State) × Went told new_bench last
