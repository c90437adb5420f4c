use Rattle.std.specs.Prelude.{MatchOption}
use Rattle.std.specs.Borrow.{Bor}
use Rattle.std.specs.Option.{option_copied}
use Rattle.std.proofs.Common.{◌≡◌, ℕ, Bool, false, eqb, Some, None, Option, sym, ap, ◌∙◌, rules}
use Rattle.search.proofs.Ordering.{parts_by}
use Rattle.wire.proofs.Multiplexors.{by_fields}
use Rattle.dictionary.specs.declared.row.Row.{Row}
use Rattle.dictionary.proofs.Finding.{at, has_one, got, index_there, table_rising}
use Rattle.dictionary.proofs.table.Table.has_index_by_halves.Goals as goal

-- what is tested of the row that is found is its index
tested : (i : ℕ) (o : Option (Bor Row)) (b : Bool) (Said : Bor Row → Type 0) → ((r : Bor Row) → Said r → b ≡ eqb (at r.now).index i) → MatchOption o (b ≡ false) Said → b ≡ has_one i (option_copied o)
tested i None b Said f h = h
tested i (Some r) b Said f h = f r h

pub returns : goal.returns
returns c =
    let t = c.args.self.now in
    let rows = t.rows.items in
    let i = c.args.index in
    let n = c.count_before-first.result in
    let parts = rw c.deref.ensures.0 at (parts_by by_fields c.count_before-first.ensures.parts) in
    let lookup = rw c.deref-2.ensures.0 at c.get.ensures.lookup in
    tested i c.get.result c.is_some_and.result _ (λ r h. search rules) c.is_some_and.ensures
    ∙ ap (has_one i) (got rows n c.get.result lookup.0 lookup.1)
    ∙ sym (index_there t.bytes.items i rows n (table_rising t) (parts (table_rising t)))
