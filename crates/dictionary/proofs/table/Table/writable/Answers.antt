use Rattle.std.proofs.Common.{◌∙◌}
use Rattle.std.proofs.lemmas.Result.{err_from_is_err_and}
use Rattle.dictionary.specs.Layouts.{row_at, held}
use Rattle.dictionary.specs.Tables.{table_entries}
use Rattle.dictionary.proofs.Lengths.{objection-fits}
use Rattle.dictionary.proofs.Presence.{write_present, decided-ok, decided-err}
use Rattle.dictionary.proofs.table.Table.writable.Goals as goal

pub returns-in_err-check : goal.returns-in_err-check
returns-in_err-check c =
    let t = c.args.self.now in
    let r = row_at t.rows.items c.in_ok-place.place in
    let p = err_from_is_err_and c.from_residual-in_err-check.result c.from_residual-in_err-check.ensures.1 in
    rw (p.1, p.2)
    (write_present c.args.multiplexor (table_entries t) r.multiplexor r.attributes (held t.bytes.items r) c.args.value.now c.in_ok-place.ensures.there
    ∙ decided-err _ _ (rw c.deref.ensures.0 at c.in_err-check.ensures))

pub returns : goal.returns
returns c =
    let t = c.args.self.now in
    let r = row_at t.rows.items c.in_ok-place.place in
    let none = decided-ok _ (rw c.deref.ensures.0 at c.in_ok-check.ensures) in
    let stands = c.in_ok-place.ensures in (
      stands,
      write_present c.args.multiplexor (table_entries t) r.multiplexor r.attributes (held t.bytes.items r) c.args.value.now stands.there ∙ none,
      objection-fits r.attributes _ none,
    )
