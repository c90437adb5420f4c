use Rattle.sdo.proofs.Sameness.{same_data}
use Rattle.sdo.proofs.equality.equal_data.Goals as goal

pub returns : goal.returns
returns c = λ start. same_data
