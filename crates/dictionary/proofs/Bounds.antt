-- No value of a lawful dictionary is longer than 1,024 bytes.
use Rattle.std.proofs.Common.{◌≤◌, [], ◌∷◌, length, Some, arith}
use Rattle.std.proofs.lemmas.Bool.{cond_both}
use Rattle.wire.specs.Multiplexors.{same}
use Rattle.dictionary.specs.Entries.{entry_at}
use Rattle.dictionary.specs.Laws.{ValueBounded}
use Rattle.dictionary.specs.Questions.{value_of}

pub value_bounded : ValueBounded
value_bounded [] m l = omega arith
value_bounded (e ∷ es) m (sound, leads, rest) =
    cond_both (same e.at m) (Some e) (entry_at m es) (λ o. length (value_of o) ≤ 1024)
    (λ t. omega arith)
    (λ t. value_bounded es m rest)
