use Rattle.std.proofs.Common.{arith}
use Rattle.std.proofs.lemmas.Grind.{common_steps}
use Rattle.std.proofs.lemmas.Slice.Eq.{bytes_eq-Decides}
use Rattle.wire.proofs.Codes.{other_coded}
use Rattle.sdo.proofs.Sameness.{same_transfers, alike_transfers, expedited_alike, alike_segments, segments_alike}
use Rattle.sdo.proofs.equality.equal_messages.Goals as goal

pub returns-clause-requests : goal.returns-clause-requests
returns-clause-requests c = λ a b. (grind (arith, common_steps, other_coded, alike_transfers, alike_segments), grind (arith, common_steps, expedited_alike, segments_alike))

pub returns-clause-blocks : goal.returns-clause-blocks
returns-clause-blocks c = λ a b. grind (arith, common_steps, other_coded, bytes_eq-Decides)

pub returns-clause-transfers : goal.returns-clause-transfers
returns-clause-transfers c = same_transfers

pub returns-clause-answers : goal.returns-clause-answers
returns-clause-answers c = λ a b. (grind (arith, common_steps, other_coded, alike_transfers, alike_segments), grind (arith, common_steps, expedited_alike, segments_alike))
