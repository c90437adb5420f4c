use Rattle.std.proofs.Common.{◌≡◌, Some, sym, ap}
use Rattle.dictionary.specs.Verdicts.{read_verdict}
use Rattle.dictionary.specs.Questions.{value_at}
use Rattle.node.specs.Steps.{unless, given}
use Rattle.node.proofs.Turning.{turning, refused_by}
use Rattle.node.proofs.node.Node.start_upload.Goals as goal

pub returns-in-Err : goal.returns-in-Err
returns-in-Err g c =
    let d = g.D.Readable.meaning c.args.dictionary.now in
    let m = c.args.multiplexor in
    let h = c.refuse.ensures in
    let w : read_verdict d m ≡ Some c.in-Err.code = refused_by (read_verdict d m) c.in-Err.code c.in-Err.ensures.answer in
    turning (sym (ap (λ x. unless x m (given m (value_at d m))) w)) (record { answer = h.answer; node = h.node; unset = h.unset })
