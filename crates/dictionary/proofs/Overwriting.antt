-- What a write over some bytes leaves below it, what it puts there, and what it leaves above.
use Rattle.std.proofs.Common.{◌≡◌, ℕ, ◌+◌, ◌≤◌, List, ◌++◌, length, take, drop, sym, refl, ap, ◌∙◌}
use borrow.Rule.Slice.PartMut.{put_mid}
use Rattle.std.proofs.lemmas.List.{drop-drop, drop_at, take_at, length-take-le}
use Rattle.std.proofs.lemmas.Slice.{take-put_mid_below, drop-put_mid}
use Rattle.dictionary.specs.Layouts.{overwritten}

module _ (at : ℕ) (v bytes : List ℕ) (within : at ≤ length bytes) where
  -- a write as one to a part
  as_part : overwritten at v bytes ≡ put_mid at (length v) bytes v
  as_part = ap (λ (l : List ℕ). take at bytes ++ (v ++ l)) (sym (drop-drop (length v) at bytes))

  pub take-overwritten : (e : ℕ) → e ≤ at → take e (overwritten at v bytes) ≡ take e bytes
  take-overwritten e h = ap (take e) as_part ∙ take-put_mid_below at (length v) bytes v e h within

  pub read-overwritten : take (length v) (drop at (overwritten at v bytes)) ≡ v
  read-overwritten = ap (take (length v)) (drop_at (take at bytes) _ at (length-take-le at bytes within)) ∙ take_at v _ (length v) refl

  pub drop-overwritten : (e : ℕ) → at + length v ≤ e → drop e (overwritten at v bytes) ≡ drop e bytes
  drop-overwritten e h = ap (drop e) as_part ∙ drop-put_mid at (length v) bytes v e h within refl
