use Rattle.std.proofs.Common.{◌≡◌, ◌≤◌, ◌∷◌, ◌++◌, [], List, map, length, sym, ap, ◌∙◌, arith}
use Rattle.line.specs.Records.{newest, kept_in}
use Rattle.line.specs.declared.sent.Sent.{Sent}
use Rattle.line.proofs.Rows.{sized_again, stored, turned}
use Rattle.line.proofs.kept.Kept.put.Goals as goal
use Rattle.line.proofs.kept.Kept.put.Goals.{then-self-eq0, else-self-eq0}

pub returns-then-self-gt0 : goal.returns-then-self-gt0
returns-then-self-gt0 g c =
    let room = g.row.ROOM in
    let before = c.self.inside in
    let now = c.if-self-eq0.self-inside in
    let free : now.free ≤ room = elim c.if-self-eq0.branch [
      | then-self-eq0 w ↦ rw w.self-inside-is (omega arith)
      | else-self-eq0 w ↦ rw w.self-inside-is c.self.invariant.2
    ] in
    let start : now.start ≤ room = elim c.if-self-eq0.branch [
      | then-self-eq0 w ↦ rw w.self-inside-is (omega arith)
      | else-self-eq0 w ↦ rw w.self-inside-is c.self.invariant.1
    ] in
    let sized : map length now.rows ≡ room ∷ room ∷ [] = elim c.if-self-eq0.branch [
      | then-self-eq0 w ↦ rw (w.self-inside-is, w.turn.ensures) (sized_again room before.rows c.self.invariant.0)
      | else-self-eq0 w ↦ rw w.self-inside-is c.self.invariant.0
    ] in
    let same : kept_in room now.rows now.start now.free ≡ c.args.self.now = elim c.if-self-eq0.branch [
      | then-self-eq0 w ↦ rw (w.self-inside-is, w.turn.ensures) (turned room before.start c.self.invariant.1 before.rows c.self.invariant.0 ∙ ap (kept_in room before.rows before.start) (sym w.if-self-eq0.true) ∙ c.self.view_is)
      | else-self-eq0 w ↦ rw w.self-inside-is c.self.view_is
    ] in
    rw c.store.ensures (stored room now.start start now.rows sized now.free c.args.sent c.if-self-gt0.true free ∙ ap (λ (frames : List Sent). newest room (frames ++ c.args.sent ∷ [])) same)
