-- Success is told only after the last answer, and an abort that is heard ends the transfer.
use Rattle.std.proofs.Common.{◌≡◌, Some, Ok, Option, sym, ap, ◌∙◌}
use Rattle.wire.specs.declared.frame.Frame.{Frame}
use Rattle.wire.specs.declared.multiplexor.Multiplexor.{Multiplexor}
use Rattle.wire.specs.declared.abort_code.AbortCode.{AbortCode}
use Rattle.wire.specs.Frames.{answer_identifier}
use Rattle.sdo.specs.Answers.{Answer, answer_in}
use Rattle.sdo.specs.Answers as answer
use Rattle.master.specs.declared.heard.Heard.TheVariants as heard
use Rattle.master.specs.declared.phase.Phase.TheVariants.{Open, Over}
use Rattle.master.specs.declared.phase.Awaiting.{Awaiting}
use Rattle.master.specs.States.{State}
use Rattle.master.specs.Steps.{Step, found, abort_heard, hear_in, hear}
use Rattle.master.specs.Laws.{Finishes, Awaited, SuccessIsAnswered, AbortHeardEnds}
use Rattle.master.proofs.Outcomes.{Outcome, goes_on, ended, was_told, succeeded, HeardAs, stays, answers, hear_outcome}
use Rattle.master.proofs.Addressing.{addressed}

finished_by : {s : State} {w : Awaiting} {o : Option Answer} {p : Step} → Outcome s w o p → p.next.phase ≡ Over (Ok tt) → (a : Answer) × ((o ≡ Some a) × Finishes s w a p.next.value)
unfolding found abort_heard
finished_by (goes_on u h v fs some paid) e = cc
finished_by (ended c) e = cc
finished_by (was_told c) e = cc
finished_by (succeeded a v is fin) e = (a, (is, fin))

answered_by : {s : State} {f : Option Frame} {p : Step} → HeardAs s f p → p.heard ≡ heard.Over → p.next.phase ≡ Over (Ok tt) → (g : Frame) × ((f ≡ Some g) × Awaited s g p.next.value)
answered_by (stays h no-over no-sent) over e = absurd (no-over over)
answered_by (answers w g own is from out) over e =
    let last = finished_by out e in
    (g, (is, record { waits = w; says = last.0; open_for = own; from_node = from; in_bytes = last.1.0; last = last.1.1 }))

pub success_is_answered : SuccessIsAnswered
success_is_answered s f over e = answered_by (hear_outcome s f) over e

abort_is_told : (s : State) (w : Awaiting) (g : Frame) (m : Multiplexor) (c : AbortCode) → s.phase ≡ Open w → g.identifier.number ≡ (answer_identifier s.node).number → answer_in g.bytes ≡ Some (answer.Abort m c) → hear s (Some g) ≡ abort_heard s c
unfolding hear
abort_is_told s w g m c own from said = ap (λ p. hear_in s p g) own ∙ addressed s w g (Some (answer.Abort m c)) from (sym said)

pub abort_heard_ends : AbortHeardEnds
unfolding abort_heard
abort_heard_ends s w g m c own from said =
    let e : hear s (Some g) ≡ abort_heard s c = abort_is_told s w g m c own from said in
    record { over = ap (λ p. p.heard) e; failure = ap (λ p. p.next.phase) e; sending = ap (λ p. p.sending) e }
