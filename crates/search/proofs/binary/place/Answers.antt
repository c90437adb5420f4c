use Rattle.std.proofs.Common.{rules}
use Rattle.search.proofs.Placing.{at_end, at_row}
use Rattle.search.proofs.binary.place.Goals as goal

pub returns-in_err-row-clause-answers : goal.returns-in_err-row-clause-answers
returns-in_err-row-clause-answers g c up =
    at_end g.met.R.Key.Ord.total g.R.Keyed.label _ _ _ c.count_before-first.ensures.border up _ (search rules) (search rules)

pub returns-clause-answers : goal.returns-clause-answers
returns-clause-answers g c up =
    at_row g.met.R.Key.Ord.total g.R.Keyed.label _ _ _ c.count_before-first.ensures.border up c.in_ok-row.row.now _ _ c.then_some.ensures (search rules) (search rules)
