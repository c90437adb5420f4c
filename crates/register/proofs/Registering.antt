-- The rows of the register rise, and the layer of a code is that of the row which the search finds, or the protocol
-- where it finds none.
use Rattle.std.proofs.Common.{◌≡◌, ℕ, zero, suc, ◌+◌, ◌≤◌, Bool, true, ◌&&◌, List, [], ◌∷◌, get_or, Some, None, refl, arith}
use Rattle.std.proofs.lemmas.Bool.{and_parts}
use Rattle.std.proofs.lemmas.Bool.Decides.{nat_tests}
use Rattle.std.specs.Ordering.{nat_cmp}
use Rattle.search.specs.Orders.{earlier}
use Rattle.search.specs.Places.{Rising, place_from}
use Rattle.register.specs.declared.layer.Layer.{Layer}
use Rattle.register.specs.declared.layer.Layer.TheVariants.{Protocol}
use Rattle.register.specs.declared.register.Registered.{Registered}
use Rattle.register.specs.Layers.{register, layer_among}

abbrev pub number_of : Registered → ℕ
number_of r = r.0

-- the rows that the register lists
abbrev pub rows_of : List (ℕ × Layer) → List Registered
rows_of [] = []
rows_of (r ∷ rs) = record { 0 = r.0; 1 = r.1 } ∷ rows_of rs

-- whether each row has a lower number than the next
abbrev ascends : List Registered → Bool
ascends [] = true
ascends (r ∷ []) = true
ascends (r ∷ q ∷ qs) = earlier nat_cmp r.0 q.0 && ascends (q ∷ qs)

ascends_rising : (rs : List Registered) → ascends rs ≡ true → Rising (earlier nat_cmp) number_of rs
ascends_rising [] h = tt
ascends_rising (r ∷ []) h = (tt, tt)
ascends_rising (r ∷ q ∷ qs) h = let p = and_parts (earlier nat_cmp r.0 q.0) _ h in (p.0, ascends_rising (q ∷ qs) p.1)

-- antt computes the test
pub rising : Rising (earlier nat_cmp) number_of (rows_of register)
rising = ascends_rising (rows_of register) refl

module _ (n : ℕ) where
  place_least : (rs : List Registered) (m k : ℕ) → Some k ≡ place_from (earlier nat_cmp) number_of m n rs → m ≤ k
  place_least [] m k h = grind arith
  place_least (r ∷ rs) m k h = let ih = place_least rs (m + 1) k in grind (arith, ih)

  pub layer_there : (rs : List (ℕ × Layer)) (m i k : ℕ) (d : Registered) → k ≡ m + i → Some k ≡ place_from (earlier nat_cmp) number_of m n (rows_of rs) → layer_among rs n ≡ (get_or (rows_of rs) i d).1
  layer_there [] m i k d e h = grind arith
  layer_there (r ∷ rs) m zero k d e h = let b = place_least (rows_of rs) (m + 1) k in grind (arith, nat_tests, b)
  layer_there (r ∷ rs) m (suc i) k d e h = let ih = layer_there rs (m + 1) i k d (omega arith) in grind (arith, nat_tests, ih)

  pub layer_missing : (rs : List (ℕ × Layer)) (m : ℕ) → None ≡ place_from (earlier nat_cmp) number_of m n (rows_of rs) → layer_among rs n ≡ Protocol
  layer_missing [] m h = refl
  layer_missing (r ∷ rs) m h = let ih = layer_missing rs (m + 1) in grind (arith, nat_tests, ih)
