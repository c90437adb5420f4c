-- What follows for the order of keys from how they compare.
use Rattle.std.proofs.Common.{◌≡◌, ℕ, Bool, true, not, List, Option, refl, ap, subst, ◌∙◌, Ordering, Less, Equal, Greater}
use Rattle.std.proofs.Math.Nat.{le_antisymm}
use Rattle.std.proofs.lemmas.Map.Keys.{ge_from_not_lt}
use Rattle.std.specs.Cmp.{IsTotalOrder, tied_itself}
use Rattle.std.specs.Ordering.{is_lt, is_le, nat_cmp, ordering_reverse}
use Rattle.search.specs.Orders.{earlier, Irreflexive, Transitive, Connected}
use Rattle.search.specs.Places.{Rising, Answers, Parts}

less : (o : Ordering) → is_lt o ≡ true → o ≡ Less
less Less h = refl
less Equal h = cc
less Greater h = cc

turned : (o : Ordering) → is_lt (ordering_reverse o) ≡ not (is_le o)
turned Less = refl
turned Equal = refl
turned Greater = refl

module _ {K : Type 0} {cmp : K → K → Ordering} (total : IsTotalOrder cmp) where
  pub irreflexive : Irreflexive (earlier cmp)
  irreflexive a = ap is_lt (tied_itself total a)

  pub transitive : Transitive (earlier cmp)
  transitive a b c p q = ap is_lt (total.trans a b c (less (cmp a b) p) (less (cmp b c) q))

  -- a key stands before another where the other compares as greater
  pub from_behind : (a b : K) → earlier cmp a b ≡ not (is_le (cmp b a))
  from_behind a b = ap is_lt (total.antisymm a b) ∙ turned (cmp b a)

-- of two different numbers one stands before the other
pub numbers_connected : Connected (earlier nat_cmp)
numbers_connected a b p q = le_antisymm (ge_from_not_lt b a q) (ge_from_not_lt a b p)

one_test : {K : Type 0} {test other : K → K → Bool} → ((a b : K) → test a b ≡ other a b) → test ≡ other
one_test alike = λ i a b. alike a b i

-- what is known of rows by one test is known by another that answers alike
module _ {K R : Type 0} {test other : K → K → Bool} (alike : (a b : K) → test a b ≡ other a b) {key : R → K} {k : K} {rs : List R} where
  pub answers_by : {o : Option ℕ} → (Rising test key rs → Answers test key k rs o) → Rising other key rs → Answers other key k rs o
  answers_by {o} = let P : (K → K → Bool) → Type 0 = λ t. Rising t key rs → Answers t key k rs o in subst P (one_test alike)

  pub parts_by : {n : ℕ} → (Rising test key rs → Parts test key k rs n) → Rising other key rs → Parts other key k rs n
  parts_by {n} = let P : (K → K → Bool) → Type 0 = λ t. Rising t key rs → Parts t key k rs n in subst P (one_test alike)
