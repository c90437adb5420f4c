-- The parts of a value that its segments carry, and that they make up its front.
use Rattle.std.proofs.Common.{◌≡◌, zero, suc, ◌+◌, ◌*◌, ◌++◌, take, sym, refl, ap, ◌∙◌, arith, take-add}
use Rattle.sdo.specs.Segments.{segment, SegmentsJoin}

pub segments-joined : SegmentsJoin
segments-joined zero v = refl
segments-joined (suc k) v =
    let seven-more : 7 * suc k ≡ 7 * k + 7 = omega arith in
    ap (λ front. front ++ segment (suc k) v) (segments-joined k v) ∙ sym (take-add (7 * k) 7 v) ∙ ap (λ n. take n v) (sym seven-more)
