use Rattle.std.proofs.Common.{length, set, ap, ◌∙◌, arith}
use Rattle.dictionary.specs.Layouts.{row_at, laid}
use Rattle.dictionary.proofs.Lengths.{fits-longest}
use Rattle.dictionary.proofs.Storing.{resized, length-overwritten, table_resized, table_stored, entries_along, laid_along, rows_written, bytes_written}
use Rattle.dictionary.proofs.TableFacts.{table_slot}
use Rattle.dictionary.proofs.table.Table.store.Goals as goal

pub overwrite-requires : goal.overwrite-requires
overwrite-requires c =
    let t = c.args.self.now in
    let i = c.args.place in
    let slot = table_slot t i c.requires.within in
    let short = fits-longest (row_at t.rows.items i).attributes (length c.args.value.now) c.requires.fitting in
    rw (c.deref.ensures.0, c.deref_mut.ensures.value) (omega arith)

pub invariant_of-self-clause-layout : goal.invariant_of-self-clause-layout
invariant_of-self-clause-layout c =
    let t = c.args.self.now in
    let i = c.args.place in
    let v = c.args.value.now in
    let rows = rows_written t.rows c.deref_mut-2.result.now i (length v) c.deref_mut-2.ensures.value in
    let bytes = bytes_written t.bytes c.deref_mut.result.now c.overwrite.new.bytes v c.deref.result.now t.rows.items i c.deref_mut.ensures.value c.deref.ensures.0 c.overwrite.auto.bytes c.overwrite.ensures in
    let slot = table_slot t i c.requires.within in
    let short = fits-longest (row_at t.rows.items i).attributes (length v) c.requires.fitting in
    let n = length-overwritten (row_at t.rows.items i).start v t.bytes.items (omega arith) in
    laid_along bytes rows (ap (laid 0 (set t.rows.items i (resized (length v) (row_at t.rows.items i)))) n ∙ table_resized t i c.requires.within (length v) c.requires.fitting)

pub returns : goal.returns
returns c =
    let t = c.args.self.now in
    let i = c.args.place in
    let v = c.args.value.now in
    let rows = rows_written t.rows c.deref_mut-2.result.now i (length v) c.deref_mut-2.ensures.value in
    let bytes = bytes_written t.bytes c.deref_mut.result.now c.overwrite.new.bytes v c.deref.result.now t.rows.items i c.deref_mut.ensures.value c.deref.ensures.0 c.overwrite.auto.bytes c.overwrite.ensures in
    entries_along bytes rows ∙ table_stored t i c.requires.within v (fits-longest (row_at t.rows.items i).attributes (length v) c.requires.fitting)
