-- A book on a bench, kept by one who sees its calls with their arguments and answers, and nothing of the bench.
-- Where a write is reported as Undecided, someone who knows says whether its value was set.
use Rattle.std.specs.Prelude.{◌≡◌, ℕ, ◌+◌, Bool, true, false, cond, List, Some, None, Ok, Err, Option}
use Rattle.wire.specs.declared.multiplexor.Multiplexor.{Multiplexor}
use Rattle.dictionary.specs.Entries.{Entry, put}
use Rattle.dictionary.specs.Laws.{There}
use Rattle.master.specs.Calls as order
use Rattle.master.specs.Calls.{Order}
use Rattle.report.specs.declared.report.Outcome.{Outcome}
use Rattle.report.specs.declared.report.Outcome.TheVariants.{Written, Read, Unwritten, Undecided, Unread}
use Rattle.bench.specs.Law.Runs.{Act, Begin, Serve, Hear, Tick, Settle}

-- the transfer whose ticket is out: its multiplexor, and the value that it is to write if it is a write
pub record Note : Type 0 where
  pub multiplexor : Multiplexor
  pub value : Option (List ℕ)

-- the dictionary by the values that were set, how many these were, and the note of a transfer
pub record Book : Type 0 where
  pub dictionary : List Entry
  pub number : ℕ
  pub note : Option Note

-- the book starts with the first dictionary
abbrev pub new_book : List Entry → Book
new_book d = record { dictionary = d; number = 0; note = None }

-- the value of an order, if it is a write
abbrev pub value_ordered : Order → Option (List ℕ)
value_ordered order.Read = None
value_ordered (order.Write how v) = Some v

-- a report tells that a value was set, by what is said of it where it is Undecided
abbrev pub tells_set : Bool → Outcome → Bool
tells_set said Written = true
tells_set said (Read n) = false
tells_set said (Unwritten f) = false
tells_set said (Undecided f) = said
tells_set said (Unread f) = false

-- the noted value is put into its entry, and the number grows by one
abbrev pub value_put : Multiplexor → Option (List ℕ) → Book → Book
value_put m None b = b
value_put m (Some v) b = record b { dictionary = put m v b.dictionary; number = b.number + 1 }

abbrev pub note_put : Option Note → Book → Book
note_put None b = b
note_put (Some n) b = value_put n.multiplexor n.value b

abbrev pub set_if : Bool → Book → Book
set_if set b = cond set (note_put b.note b) b

-- a transfer is noted as it begins; as it is settled the note is dropped, after its value was put where the report tells that it was set
abbrev pub noting : Note → Book → Book
noting n b = record b { note = Some n }

abbrev pub dropping : Book → Book
dropping b = record b { note = None }

-- an act in the book; refused calls and all others do nothing
abbrev pub entered : Bool → Act → Book → Book
entered said (Begin m o (Ok k)) b = noting (record { multiplexor = m; value = value_ordered o }) b
entered said (Begin m o (Err e)) b = b
entered said (Serve r) b = b
entered said (Hear r) b = b
entered said (Tick r) b = b
entered said (Settle k buffer (Ok r) after) b = dropping (set_if (tells_set said r.outcome) b)
entered said (Settle k buffer (Err e) after) b = b

-- the note is that of a write, and the entry of its multiplexor is there
pub record CanBeSet (b : Book) : Type 0 where
  pub multiplexor : Multiplexor
  pub value : List ℕ
  pub noted : b.note ≡ Some (record { multiplexor = multiplexor; value = Some value })
  pub there : There b.dictionary multiplexor

abbrev pub SetsThere : Bool → Book → Type 0
SetsThere set b = set ≡ true → CanBeSet b
