use Rattle.std.proofs.Common.{rules, []}
use Rattle.bench.specs.Model.Calls.{serve_step}
use Rattle.bench.specs.Law.Runs.{Serve}
use Rattle.bench.proofs.Law.Runs.{serve_happened, keeps_law}
use Rattle.bench.proofs.bench.BenchSteppable.serve.Goals as goal

pub returns-clause-law : goal.returns-clause-law
unfolding serve_step
returns-clause-law g c = keeps_law (Serve _) [] _ _ (serve_happened _ (search rules) (search rules))
