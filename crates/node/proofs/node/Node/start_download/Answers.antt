use Rattle.std.proofs.Common.{sym, ap, ◌∙◌}
use Rattle.sdo.specs.Answers as answer
use Rattle.sdo.specs.Transfers.{shown_transfer}
use Rattle.dictionary.specs.Verdicts.{write_verdict}
use Rattle.node.specs.Steps.{commit, start_download}
use Rattle.node.proofs.Turning.{doing, committing}
use Rattle.node.proofs.node.Node.start_download.Goals as goal

pub returns-in-Expedited : goal.returns-in-Expedited
returns-in-Expedited g c =
    let d = g.D.Readable.meaning c.args.dictionary.now in
    let m = c.args.multiplexor in
    let a = answer.InitiateDownload m in
    let v = c.value.result.now in
    doing {p = λ x. commit x m v a} {q = λ x. start_download x m (shown_transfer c.args.transfer)}
    (ap (λ y. commit d m y a) c.value.ensures ∙ sym (ap (λ t. start_download d m (shown_transfer t)) c.in-Expedited.is))
    (committing m v a (c.conclude.ensures (write_verdict d m v) v c.commit-outcome.ensures.answer) c.commit-outcome.ensures.after)
