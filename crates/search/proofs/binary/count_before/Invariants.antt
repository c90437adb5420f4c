use Rattle.std.proofs.Common.{◌-◌, ◌≤◌, length}
use Rattle.search.specs.Orders.{earlier}
use Rattle.search.specs.Places.{Below, Above}
use Rattle.search.proofs.binary.count_before.Given as goal

abbrev pub invariant-loop-low : goal.invariant-loop-low
invariant-loop-low g l =
    (l.low ≤ l.high)
    × (l.high ≤ length l.rows)
    × Below (earlier g.R.Key.Ord.cmp) g.R.Keyed.label l.key l.rows l.low
    × Above (earlier g.R.Key.Ord.cmp) g.R.Keyed.label l.key l.rows l.high

abbrev pub decreases-loop-low : goal.decreases-loop-low
decreases-loop-low g l = l.high - l.low
