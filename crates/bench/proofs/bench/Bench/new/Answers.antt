use Rattle.std.proofs.Common.{rules}
use Rattle.bench.proofs.Numbers.{made_fresh}
use Rattle.bench.proofs.bench.Bench.new.Goals as goal

pub returns : goal.returns
returns g c = made_fresh (g.D.Readable.meaning c.args.dictionary) {n = c.nearest-number.result} {b = c.nearest.result} c.args.node c.args.block_size (search rules) (search rules) (search rules) (search rules) (search rules)
