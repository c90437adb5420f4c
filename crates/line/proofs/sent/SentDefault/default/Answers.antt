use Rattle.std.proofs.Common.{◌≡◌, [], ◌∷◌, ap, arith}
use Rattle.wire.proofs.Identifiers.{same_identifier}
use Rattle.line.specs.declared.end.End.TheVariants.{Node}
use Rattle.line.specs.Records.{vacant}
use Rattle.line.proofs.sent.SentDefault.default.Goals as goal

pub returns : goal.returns
returns c =
    let number : c.of_requests.result.number ≡ vacant.frame.identifier.number = omega (arith, c.of_requests.ensures, c.nearest.ensures) in
    ap (λ i. record { to = Node; frame = record { identifier = i; bytes = 0 ∷ 0 ∷ 0 ∷ 0 ∷ 0 ∷ 0 ∷ 0 ∷ 0 ∷ [] } }) (same_identifier c.of_requests.result vacant.frame.identifier number)
