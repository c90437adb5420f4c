use Rattle.std.proofs.Common.{◌≡◌, ◌+◌, ◌<◌, false, List, [], ◌∷◌, ◌++◌, length, sym, ap, set, ◌∙◌, arith}
use Rattle.std.proofs.lemmas.Bool.{leb-false}
use Rattle.line.specs.Meanings.{full}
use Rattle.line.specs.Queues.{held}
use Rattle.line.proofs.Rings.{held-length, stored_before_end, stored_past_end}
use Rattle.line.proofs.queue.Queue.add.Goals as goal
use Rattle.line.proofs.queue.Queue.add.Goals.{then-self-to_end, else-self-to_end}

pub returns-clause-after : goal.returns-clause-after
returns-clause-after g c =
    let q = c.self.inside in
    let free : full g.row.ROOM c.args.self.now ≡ false = sym c.is_full.ensures ∙ c.if-is_full.false in
    let waiting = ap length c.self.view_is in
    let counted = held-length g.row.ROOM q.first q.items c.self.told c.self.invariant.0 q.count c.self.invariant.1 in
    let some : q.count < g.row.ROOM = omega (arith, leb-false g.row.ROOM (length c.args.self.now) free) in
    let last : held q.first (q.count + 1) (set q.items c.if-self-to_end.place c.args.item) ≡ held q.first q.count q.items ++ c.args.item ∷ [] =
    elim c.if-self-to_end.branch [
      | then-self-to_end w ↦ rw w.place-is (stored_before_end g.row.ROOM q.first q.items c.self.told c.self.invariant.0 q.count c.args.item w.if-self-to_end.true)
      | else-self-to_end w ↦ rw w.place-is (stored_past_end g.row.ROOM q.first q.items c.self.told c.self.invariant.0 q.count c.args.item w.if-self-to_end.false some)
    ] in
    rw free (last ∙ ap (λ (items : List g.row.T.Denot). items ++ c.args.item ∷ []) c.self.view_is)
