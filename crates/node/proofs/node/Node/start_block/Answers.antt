use Rattle.std.proofs.Common.{◌≡◌, [], Some, sym, ap}
use Rattle.dictionary.specs.Verdicts.{start_verdict}
use Rattle.node.specs.Steps.{unless, block_awaited}
use Rattle.node.proofs.Turning.{turning, refused_by}
use Rattle.node.proofs.node.Node.start_block.Goals as goal

pub returns-in-Err : goal.returns-in-Err
returns-in-Err g c =
    let d = g.D.Readable.meaning c.args.dictionary.now in
    let s = c.args.start in
    let m = s.download.multiplexor in
    let n = c.args.self.now.block_size.number in
    let h = c.refuse.ensures in
    let w : start_verdict d m s.download.size ≡ Some c.in-Err.code = refused_by (start_verdict d m s.download.size) c.in-Err.code c.in-Err.ensures in
    turning (sym (ap (λ x. unless x m (block_awaited n s [])) w)) (record { answer = h.answer; node = h.node; unset = h.unset })
