use Rattle.std.proofs.Common.{arith}
use Rattle.std.proofs.lemmas.Grind.{common_steps}
use Rattle.orders.proofs.hex_bytes.HexBytesDisplay.fmt.Goals as goal

pub loop-byte-preserved : goal.loop-byte-preserved
loop-byte-preserved g c = grind (arith, common_steps)

pub returns-after-loop-byte-clause-writes : goal.returns-after-loop-byte-clause-writes
returns-after-loop-byte-clause-writes g c = grind (arith, common_steps)
