use Rattle.bench.proofs.Law.Sentences as proved
use Rattle.bench.proofs.laws.law_says.Goals as goal

pub returns : goal.returns
returns c = proved.law_says
