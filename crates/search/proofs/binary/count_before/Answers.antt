use Rattle.std.proofs.Common.{◌≡◌, subst, arith}
use Rattle.search.specs.Orders.{earlier}
use Rattle.search.specs.Places.{Above, Border}
use Rattle.search.proofs.Ordering.{transitive}
use Rattle.search.proofs.Parting.{parts}
use Rattle.search.proofs.binary.count_before.Goals as goal

pub returns : goal.returns
returns g c =
    let before = earlier g.R.Key.Ord.cmp in
    let label = g.R.Keyed.label in
    let rows = c.args.rows.now in
    let k = c.args.key in
    let n = c.loop-low.low in
    let met : c.loop-low.high ≡ n = omega arith in
    let inv = c.loop-low.invariant in
    let border : Border before label k rows n =
    record { within = omega arith; below = inv.2; above = subst (Above before label k rows) met inv.3 } in
    record { border = border; parts = parts before label (transitive g.met.R.Key.Ord.total) k rows n border }
