use Rattle.std.proofs.Common.{rules}
use Rattle.wire.proofs.Identifiers.{framed}
use Rattle.sdo.proofs.block_request.BlockRequest.to_frame.Goals as goal

pub returns : goal.returns
returns c = search (rules, framed)
