use Rattle.std.proofs.Common.{◌≡◌, length, ap, rules}
use Rattle.wire.specs.Texts.{bytes_text}
use Rattle.wire.proofs.Spelling.{spelled}
use Rattle.wire.proofs.text.FrameDisplay.fmt.Goals as goal

pub returns-clause-writes : goal.returns-clause-writes
returns-clause-writes g c = λ plain ok.
    let bs = c.args.self.now.bytes in
    let eight : length bs ≡ 8 = search rules in
    let e = ap bytes_text (spelled bs 8 eight) in
    simp (← e) (c.write.ensures.writes plain ok)
