use Rattle.std.proofs.Common.{ap, ◌∙◌, arith}
use Rattle.line.specs.Patterns.{turned}
use Rattle.line.proofs.Turning.{turned_right}
use Rattle.line.proofs.pattern.Pattern.turn.Goals as goal

pub returns-clause-after : goal.returns-clause-after
returns-clause-after c =
    c.rotate_right-self-inside.ensures ∙ turned_right c.self.inside.bits (omega arith) ∙ ap turned c.self.view_is
