-- The frames of a sub-block, by their places, and what each has.
use Rattle.std.proofs.Common.{◌≡◌, ℕ, zero, suc, ◌+◌, ◌<◌, ◌≤◌, Bool, true, false, List, length, refl, ap, arith}
use Rattle.std.proofs.lemmas.List.{length-append, length-take, length-replicate}
use Rattle.wire.specs.declared.node_number.NodeNumber.{NodeNumber}
use Rattle.sdo.specs.FrameData.{padded}
use Rattle.sdo.specs.RoundTrips.{Numbered}
use Rattle.sdo.specs.Segments.{segment}
use Rattle.master.specs.SubBlocks.{sub_block_from}

pub segment-few : (k : ℕ) (v : List ℕ) → length (segment k v) ≤ 7
segment-few zero v = omega arith
segment-few (suc k) v = simp length-take (omega arith)

pub segment-filled : (k : ℕ) (v : List ℕ) → length (padded 7 (segment k v)) ≡ 7
segment-filled k v = simp (length-append, length-replicate) (omega (arith, segment-few k v))

pub numbered : (last : Bool) (n : ℕ) → 1 ≤ n → n < 128 → Numbered last n
numbered true n some few = (some, few)
numbered false n some few = few

module _ (n : NodeNumber) (v : List ℕ) (b : ℕ) where
  pub sub_block-length : (k count : ℕ) → length (sub_block_from n v b k count) ≡ count
  sub_block-length k zero = refl
  sub_block-length k (suc count) = ap suc (sub_block-length (k + 1) count)
