use Rattle.std.specs.Option.{option_map}
use Rattle.std.proofs.Common.{◌≡◌, ℕ, ◌+◌, suc, slice_get, length, ap, sym, ◌∙◌, arith}
use Rattle.std.proofs.lemmas.Bool.{ltb-true, ltb-false}
use Rattle.search.proofs.Ordering.{parts_by}
use Rattle.wire.specs.Multiplexors.{same}
use Rattle.wire.proofs.Multiplexors.{by_fields}
use Rattle.dictionary.specs.declared.row.Row.{Row}
use Rattle.dictionary.proofs.Finding.{at, table_rising, above_none, above_there, above_itself}
use Rattle.dictionary.proofs.table.Table.first_above.Goals as goal

pub returns-in-Some : goal.returns-in-Some
returns-in-Some c =
    let t = c.args.self.now in
    let m = c.args.multiplexor in
    let rows = t.rows.items in
    let n = c.count_before-first.result in
    let parts = rw c.deref.ensures.0 at (parts_by by_fields c.count_before-first.ensures.parts) in
    let found = rw c.deref-2.ensures.0 at c.in-Some.ensures.lookup in
    let is = sym (ap (λ (r : Row). same (at r) m) found.1) ∙ sym c.if-eq.ensures in
    let next : suc n ≡ n + 1 = omega arith in
    above_itself t.bytes.items m rows n c.in-Some.row.now (table_rising t) (parts (table_rising t)) (ltb-true n (length rows) (sym found.0)) is
    ∙ ap (λ (k : ℕ). option_map at (slice_get rows k)) next

pub returns-in_default : goal.returns-in_default
returns-in_default c =
    let t = c.args.self.now in
    let m = c.args.multiplexor in
    let rows = t.rows.items in
    let n = c.count_before-first.result in
    let parts = rw c.deref.ensures.0 at (parts_by by_fields c.count_before-first.ensures.parts) in
    let found = rw c.deref-2.ensures.0 at c.in-Some.ensures.lookup in
    let apart = sym (ap (λ (r : Row). same (at r) m) found.1) ∙ sym c.if-eq.ensures in
    above_there t.bytes.items m rows n c.in-Some.row.now (parts (table_rising t)) (ltb-true n (length rows) (sym found.0)) apart

pub returns-in_default-2 : goal.returns-in_default-2
returns-in_default-2 c =
    let t = c.args.self.now in
    let rows = t.rows.items in
    let n = c.count_before-first.result in
    let parts = rw c.deref.ensures.0 at (parts_by by_fields c.count_before-first.ensures.parts) in
    let none = rw (c.deref-2.ensures.0, c.in_default.is) at c.get.ensures.lookup in
    above_none t.bytes.items c.args.multiplexor rows n (parts (table_rising t)) (ltb-false n (length rows) (sym none.0))
