use Rattle.sdo.proofs.Joining.{segments-joined}
use Rattle.sdo.proofs.segments.segments_join.Goals as goal

pub returns : goal.returns
returns c = segments-joined
