-- What a table's meaning has to do with its fields.
use Rattle.std.proofs.Common.{◌≡◌, ℕ, ◌<◌, length, Some, ap, ◌∙◌, arith}
use Rattle.wire.specs.declared.multiplexor.Multiplexor.{Multiplexor}
use Rattle.dictionary.specs.declared.table.Table.{Table}
use Rattle.dictionary.specs.Additions.{needed}
use Rattle.dictionary.specs.Layouts.{vacant, row_at, entry}
use Rattle.dictionary.specs.Places.{place_at}
use Rattle.dictionary.specs.Tables.{table_entries, Stands}
use Rattle.dictionary.proofs.Laying.{Slot, length-entries, get_or-entries, needed-laid, laid_slot}
use Rattle.dictionary.proofs.Presence.{place_bounds, entry_from}

module _ (t : Table) where
  pub table_length : length (table_entries t) ≡ length t.rows.items
  table_length = length-entries t.bytes.items t.rows.items

  pub table_needed : needed (table_entries t) ≡ length t.bytes.items
  table_needed = omega (arith, needed-laid t.bytes.items 0 t.rows.items (length t.bytes.items) t.layout)

  -- where the row at a place lies
  pub table_slot : (i : ℕ) → i < length t.rows.items → Slot 0 (row_at t.rows.items i) (length t.bytes.items)
  table_slot i within = laid_slot 0 t.rows.items (length t.bytes.items) i t.layout within

  -- an entry's place says which row is its own
  pub stands : (m : Multiplexor) (i : ℕ) → place_at m (table_entries t) ≡ Some i → Stands t m i
  stands m i h =
      let l = table_length in
      let b = place_bounds m (table_entries t) 0 i h in
      let within : i < length t.rows.items = omega arith in
      let s = table_slot i within in
      let x = entry t.bytes.items vacant in
      let e = entry_from m (table_entries t) 0 i i x (omega arith) h in
      record { within = within; place = h; there = e ∙ ap Some (get_or-entries t.bytes.items t.rows.items i x within); room = omega arith }
