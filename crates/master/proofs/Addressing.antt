-- A frame with the node's identifier is an answer.
use Rattle.std.proofs.Common.{◌≡◌, ◌+◌, cond, Option, sym, ap, ◌∙◌, eq-eqb}
use Rattle.wire.specs.declared.frame.Frame.{Frame}
use Rattle.sdo.specs.Answers.{Answer, answer_in}
use Rattle.master.specs.declared.phase.Awaiting.{Awaiting}
use Rattle.master.specs.declared.heard.Heard.TheVariants.{Dropped}
use Rattle.master.specs.States.{State}
use Rattle.master.specs.Steps.{read, unmoved, hear_open}

pub addressed : (s : State) (w : Awaiting) (f : Frame) (o : Option Answer) → f.identifier.number ≡ 0x580 + s.node.number → o ≡ answer_in f.bytes → hear_open s w f ≡ read s w o
addressed s w f o own said =
    ap (λ t. cond t (read s w (answer_in f.bytes)) (unmoved s Dropped)) (eq-eqb f.identifier.number (0x580 + s.node.number) own) ∙ ap (read s w) (sym said)
