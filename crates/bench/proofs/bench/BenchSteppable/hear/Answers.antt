use Rattle.std.proofs.Common.{rules}
use Rattle.bench.specs.Model.Calls.{hear_step}
use Rattle.bench.specs.Law.Runs.{Hear}
use Rattle.bench.proofs.Law.Runs.{hear_happened, keeps_law}
use Rattle.bench.proofs.bench.BenchSteppable.hear.Goals as goal

pub returns-clause-law : goal.returns-clause-law
unfolding hear_step
returns-clause-law g c = keeps_law (Hear _) _ _ _ (hear_happened _ (search rules) (search rules))
