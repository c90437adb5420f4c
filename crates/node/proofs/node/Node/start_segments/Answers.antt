use Rattle.std.proofs.Common.{◌≡◌, [], Some, sym, ap}
use Rattle.sdo.specs.Answers as answer
use Rattle.sdo.specs.declared.toggle.Toggle.TheVariants.{Zero}
use Rattle.dictionary.specs.Verdicts.{start_verdict}
use Rattle.node.specs.States.{Download}
use Rattle.node.specs.Steps.{unless, answered}
use Rattle.node.proofs.Turning.{turning, refused_by}
use Rattle.node.proofs.node.Node.start_segments.Goals as goal

pub returns-in-Err : goal.returns-in-Err
returns-in-Err g c =
    let d = g.D.Readable.meaning c.args.dictionary.now in
    let s = c.args.start in
    let m = s.multiplexor in
    let h = c.refuse.ensures in
    let w : start_verdict d m s.size ≡ Some c.in-Err.code = refused_by (start_verdict d m s.size) c.in-Err.code c.in-Err.ensures in
    turning (sym (ap (λ x. unless x m (answered (Download s Zero []) (answer.InitiateDownload m))) w)) (record { answer = h.answer; node = h.node; unset = h.unset })
