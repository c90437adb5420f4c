-- The parts of a frame's bytes as their elements, one by one.
use Rattle.std.proofs.Common.{◌≡◌, ℕ, ◌+◌, ◌-◌, ◌≤◌, List, length, take, drop, ap, ◌∙◌, arith, take_all, length-take}
use Rattle.wire.proofs.Spelling.{spelled}
use Rattle.sdo.specs.Fields.{last_seven}

pub from_the_first : (bytes : List ℕ) → length bytes ≡ 8 → last_seven bytes ≡ drop 1 bytes
from_the_first bytes eight = ap (drop 1) (spelled bytes 8 eight)

-- the front of a front, where it is the shorter one
pub front_of_a_front : (n u : ℕ) (v : List ℕ) → take n (take (n + 1 - u - 1) v) ≡ take (n - u) v
front_of_a_front n u v =
    let same : n + 1 - u - 1 ≡ n - u = omega arith in
    let short : length (take (n - u) v) ≤ n = simp length-take (omega arith) in
    ap (λ k. take n (take k v)) same ∙ take_all n (take (n - u) v) short
