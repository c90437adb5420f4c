use Rattle.std.proofs.Common.{rules}
use Rattle.bench.specs.Model.Calls.{tick_step}
use Rattle.bench.specs.Law.Runs.{Tick}
use Rattle.bench.proofs.Law.Runs.{tick_happened, keeps_law}
use Rattle.bench.proofs.bench.BenchSteppable.tick.Goals as goal

pub returns-clause-law : goal.returns-clause-law
unfolding tick_step
returns-clause-law g c = keeps_law (Tick _) _ _ _ (tick_happened _ (search rules) (search rules))
