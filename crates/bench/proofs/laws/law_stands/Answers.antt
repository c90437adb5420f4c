use Rattle.bench.proofs.Law.Commits.{only_whole_values_set}
use Rattle.bench.proofs.Law.Courses.{runs_are_courses}
use Rattle.bench.proofs.Law.Runs as proved
use Rattle.bench.proofs.laws.law_stands.Goals as goal

pub returns : goal.returns
returns c = record { runs = proved.law_stands; courses = runs_are_courses; whole = only_whole_values_set }
