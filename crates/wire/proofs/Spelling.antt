-- A list as its elements, one by one.
use Rattle.std.proofs.Common.{◌≡◌, ℕ, List, map, length, get_or, sym, refl}
use Rattle.std.specs.List.{range_with_len}
use Rattle.std.proofs.lemmas.List.FromFn.{fill_by_all}

pub spelled : (v : List ℕ) (n : ℕ) → length v ≡ n → map (λ k. get_or v k 0) (range_with_len 0 n) ≡ v
spelled v n e = sym (fill_by_all (λ k. get_or v k 0) v n 0 e (λ k h. refl))
