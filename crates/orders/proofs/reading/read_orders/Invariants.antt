use Rattle.orders.specs.Pieces.{lines}
use Rattle.orders.proofs.Turns.{Sofar}
use Rattle.orders.proofs.reading.read_orders.Given as goal

abbrev pub invariant-loop-number : goal.invariant-loop-number
invariant-loop-number l = Sofar goal.iterator-loop-number.next_gives (lines l.text) l.number-iterator l.reading
