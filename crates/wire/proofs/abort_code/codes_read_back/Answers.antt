use Rattle.wire.proofs.Codes as proved
use Rattle.wire.proofs.abort_code.codes_read_back.Goals as goal

pub returns : goal.returns
returns c = proved.codes_read_back
