use Rattle.std.proofs.Common.{refl, sym, ap, ◌∙◌, arith, rules, ◌+◌}
use Rattle.line.specs.Meanings.{leading, following}
use Rattle.line.proofs.Rings.{first_taken, read_round}
use Rattle.line.proofs.queue.Queue.take.Goals as goal
use Rattle.line.proofs.queue.Queue.take.Goals.{then-self, else-self}

pub returns-clause-answer : goal.returns-clause-answer
returns-clause-answer g c =
    let q = c.self.inside in
    let split = first_taken g.row.ROOM q.first q.items (search rules) c.self.invariant.0 (q.first + 1) q.count c.index-self-self.result refl (omega (arith, c.if-self-eq0.false)) c.self.invariant.1 in
    ap leading (sym split ∙ c.self.view_is)

pub returns-clause-after : goal.returns-clause-after
returns-clause-after g c =
    let q = c.self.inside in
    elim c.if-self.branch [
      | then-self w ↦
          let split = first_taken g.row.ROOM q.first q.items (search rules) c.self.invariant.0 0 q.count c.index-self-self.result (read_round g.row.ROOM q.first q.items (search rules) c.self.invariant.0 w.if-self.true) (omega (arith, c.if-self-eq0.false)) c.self.invariant.1 in
          w.self-is ∙ ap following (sym split ∙ c.self.view_is)
      | else-self w ↦
          let split = first_taken g.row.ROOM q.first q.items (search rules) c.self.invariant.0 (q.first + 1) q.count c.index-self-self.result refl (omega (arith, c.if-self-eq0.false)) c.self.invariant.1 in
          w.self-is ∙ ap following (sym split ∙ c.self.view_is)
    ]
