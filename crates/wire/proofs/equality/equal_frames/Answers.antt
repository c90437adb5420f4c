use Rattle.std.proofs.Common.{ap}
use Rattle.std.proofs.lemmas.Bool.Decides.{Decides-eqb, Decides-like}
use Rattle.wire.proofs.Identifiers.{same_identifier}
use Rattle.wire.proofs.Sameness.{same_frames, same_codes}
use Rattle.wire.proofs.equality.equal_frames.Goals as goal

pub returns-clause-nodes : goal.returns-clause-nodes
returns-clause-nodes c = λ a b. Decides-eqb a.number b.number

pub returns-clause-identifiers : goal.returns-clause-identifiers
returns-clause-identifiers c = λ a b. Decides-like _ (same_identifier a b) (λ e. ap (λ i. i.number) e) (Decides-eqb a.number b.number)

pub returns-clause-frames : goal.returns-clause-frames
returns-clause-frames c = same_frames

pub returns-clause-codes : goal.returns-clause-codes
returns-clause-codes c = same_codes
