use Rattle.std.proofs.Common.{ℕ, List}
use Rattle.std.proofs.lemmas.Iterator.{YieldsList}
use Rattle.orders.specs.Lines.{value_in}
use Rattle.orders.proofs.Values.{Left}
use Rattle.orders.proofs.line.read_bytes.Given as goal

abbrev pub invariant-loop-word : goal.invariant-loop-word
invariant-loop-word g l =
    (goal.iterator-loop-word g).can_next l.word-iterator × (goal.iterator-loop-word g).is_finite l.word-iterator
    × ((ws : List (List ℕ)) → YieldsList (goal.iterator-loop-word g).next_gives (λ w. w.now) l.fn.words ws → Left (goal.iterator-loop-word g).next_gives l.word-iterator l.bytes.items (value_in ws))
