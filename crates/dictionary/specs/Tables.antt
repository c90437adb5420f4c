-- What a table means: the entries of its rows. And what it tells of an entry that is looked for.
use Rattle.std.specs.Prelude.{◌≡◌, ℕ, ◌+◌, ◌<◌, ◌≤◌, List, length, Some, None}
use Rattle.std.proofs.Math.Nat.{le_refl}
use Rattle.wire.specs.declared.multiplexor.Multiplexor.{Multiplexor}
use Rattle.wire.specs.declared.abort_code.AbortCode.{AbortCode}
use Rattle.dictionary.specs.declared.table.Table.{Table}
use Rattle.dictionary.specs.Entries.{Entry, Lawful, entry_at}
use Rattle.dictionary.specs.Layouts.{row_at, entry, entries}
use Rattle.dictionary.specs.Places.{place_at}
use Rattle.dictionary.specs.Questions.{absence}
use Rattle.dictionary.specs.TableLaws.{entries_lawful}

abbrev pub table_entries : Table → List Entry
table_entries t = entries t.bytes.items t.rows.items

pub table_lawful : (t : Table) → Lawful (table_entries t)
table_lawful t = entries_lawful t.bytes.items 0 t.rows.items (length t.bytes.items) (le_refl (length t.bytes.items)) t.layout

-- the entry at a multiplexor stands at a place, and is that of the row there
pub record Stands (t : Table) (m : Multiplexor) (i : ℕ) : Type 0 where
  pub within : i < length t.rows.items
  pub place : place_at m (table_entries t) ≡ Some i
  pub there : entry_at m (table_entries t) ≡ Some (entry t.bytes.items (row_at t.rows.items i))
  pub room : (row_at t.rows.items i).start + (row_at t.rows.items i).length ≤ length t.bytes.items

-- no entry stands at a multiplexor, and a code says why
pub record Absent (t : Table) (m : Multiplexor) (c : AbortCode) : Type 0 where
  pub none : entry_at m (table_entries t) ≡ None
  pub why : c ≡ absence (table_entries t) m
