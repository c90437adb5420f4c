use Rattle.std.proofs.Common.{◌≡◌, false, cond, length, sym, ap, ◌∙◌}
use Rattle.wire.specs.declared.abort_code.AbortCode.TheVariants.{LengthMismatch}
use Rattle.sdo.specs.Answers.{shown_answer}
use Rattle.sdo.specs.Segments.{differs}
use Rattle.dictionary.specs.Verdicts.{write_verdict}
use Rattle.node.specs.Steps.{refused, commit, completed}
use Rattle.node.proofs.Turning.{doing, committing}
use Rattle.node.proofs.node.Node.complete.Goals as goal

pub returns : goal.returns
returns g c =
    let d = g.D.Readable.meaning c.args.dictionary.now in
    let start = c.args.start in
    let m = start.multiplexor in
    let a = shown_answer c.args.answer in
    let v = c.args.self.now.buffer in
    let seen = c.held.result.now in
    let sized : differs start.size (length v) ≡ false = ap (differs start.size) (sym c.len.ensures.value) ∙ sym c.if-differs.ensures in
    doing {p = λ x. commit x m seen a} {q = λ x. completed x start v a}
    (ap (λ y. commit d m y a) c.held.ensures ∙ sym (ap (λ t. cond t (refused m LengthMismatch) (commit d m v a)) sized))
    (committing m seen a (c.conclude.ensures (write_verdict d m seen) seen c.commit-outcome.ensures.answer) c.commit-outcome.ensures.after)
