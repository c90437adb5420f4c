-- The identifiers of the frames that the two ends send.
use Rattle.std.specs.Prelude.{ℕ, ◌+◌, ◌<◌, ◌≤◌, refl}
use Rattle.std.proofs.Math.Nat.{le_refl, add-le-add, lt_of_le_of_lt}
use Rattle.std.proofs.lemmas.Bool.{leb-true, ltb-true}
use Rattle.wire.specs.declared.identifier.Identifier.{Identifier}
use Rattle.wire.specs.declared.node_number.NodeNumber.{NodeNumber}

-- a base of at most 0x600 and a node's number make a number of eleven bits
pub short_sum : (base : ℕ) (n : NodeNumber) → base ≤ 0x600 → base + n.number < 2048
short_sum base n low = lt_of_le_of_lt (add-le-add low n.high) (ltb-true (0x600 + 127) 2048 refl)

-- the identifier with which a master sends to a node
abbrev pub request_identifier : NodeNumber → Identifier
request_identifier n = record { number = 0x600 + n.number; short = short_sum 0x600 n (le_refl 0x600) }

-- the identifier with which a node answers
abbrev pub answer_identifier : NodeNumber → Identifier
answer_identifier n = record { number = 0x580 + n.number; short = short_sum 0x580 n (leb-true 0x580 0x600 refl) }
