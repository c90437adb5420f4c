use Rattle.std.specs.Prelude.{MatchOption}
use Rattle.std.specs.Borrow.{Bor}
use Rattle.std.specs.Option.{IsSomeAnd, option_map, option_copied}
use Rattle.std.proofs.Common.{◌≡◌, Some, None, Option, ap, ◌∙◌, sym, rules}
use Rattle.wire.specs.declared.multiplexor.Multiplexor.{Multiplexor}
use Rattle.dictionary.specs.declared.row.Row.{Row}
use Rattle.dictionary.proofs.Finding.{at, got}
use Rattle.dictionary.proofs.table.reading.TableReadable.next.Goals as goal

-- what is made of the row that is found is its multiplexor
told : (o : Option (Bor Row)) (p : Option Multiplexor) (Said : Bor Row → Multiplexor → Type 0) → ((r : Bor Row) (m : Multiplexor) → Said r m → m ≡ at r.now) → MatchOption o (p ≡ None) (λ r. IsSomeAnd p (Said r)) → p ≡ option_map at (option_copied o)
told None p Said f h = h
told (Some r) None Said f h = absurd h
told (Some r) (Some m) Said f h = ap Some (f r m h)

pub returns : goal.returns
returns c =
    let rows = c.args.self.now.rows.items in
    let n = c.first_above-first.result in
    let lookup = rw c.deref.ensures.0 at c.get.ensures.lookup in
    told c.get.result c.map.result _ (λ r x h. search rules) c.map.ensures.cases
    ∙ ap (option_map at) (got rows n c.get.result lookup.0 lookup.1)
    ∙ sym c.first_above-first.ensures
