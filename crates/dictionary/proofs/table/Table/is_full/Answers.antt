use Rattle.std.proofs.Common.{arith}
use Rattle.std.proofs.lemmas.Bool.Decides.{nat_tests}
use Rattle.dictionary.proofs.TableFacts.{table_length}
use Rattle.dictionary.proofs.table.Table.is_full.Goals as goal

pub returns : goal.returns
returns c = let n = table_length c.args.self.now in grind (arith, nat_tests)
