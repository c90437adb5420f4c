use Rattle.std.proofs.Common.{◌≡◌, ℕ, ◌+◌, ◌-◌, take, drop, sym, ap, ◌∙◌, arith}
use Rattle.std.proofs.lemmas.Bool.{cond-true, cond-false}
use Rattle.dictionary.specs.Layouts.{row_at, entry}
use Rattle.dictionary.specs.Questions.{value_of}
use Rattle.dictionary.specs.Tables.{table_entries}
use Rattle.dictionary.proofs.Presence.{read_present}
use Rattle.dictionary.proofs.table.Table.readable.Goals as goal

pub returns-then-not-reads : goal.returns-then-not-reads
returns-then-not-reads c =
    let t = c.args.self.now in
    let there = c.in_ok-place.ensures.there in
    let unread = rw c.deref.ensures.0 at c.if-not-reads.ensures in
    read_present c.args.multiplexor (table_entries t) (entry t.bytes.items (row_at t.rows.items c.in_ok-place.place)) there
    ∙ cond-false _ _ _ (sym unread)

pub returns : goal.returns
returns c =
    let t = c.args.self.now in
    let r = row_at t.rows.items c.in_ok-place.place in
    let there = c.in_ok-place.ensures.there in
    let read = rw c.deref.ensures.0 at c.if-not-reads.ensures in
    let size : (r.start + r.length) - r.start ≡ r.length = omega arith in (
      read_present c.args.multiplexor (table_entries t) (entry t.bytes.items r) there ∙ cond-true _ _ _ (sym read),
      rw (c.deref.ensures.0, c.deref-2.ensures.0) (ap (λ (n : ℕ). take n (drop r.start t.bytes.items)) size ∙ sym (ap value_of there)),
    )
