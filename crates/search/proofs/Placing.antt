-- Where the rows before a key end, the row that has it stands, if there is one.
use Rattle.std.proofs.Common.{◌≡◌, ℕ, zero, suc, ◌+◌, ◌<◌, ◌≤◌, Bool, true, false, not, cond, List, [], ◌∷◌, length, get_or, drop, Some, None, Option, sym, refl, ap, ◌∙◌, subst, le_of_suc-le-suc, not-suc-le-zero, arith}
use Rattle.std.proofs.lemmas.List.{drop_more, drop_all}
use Rattle.std.proofs.lemmas.Bool.{cond-true, cond-false, and_left, and_right, and_from, not_from_true, not_from_false}
use Rattle.std.specs.Bool.{then_some}
use Rattle.std.specs.Cmp.{IsTotalOrder}
use Rattle.std.specs.Ordering.{is_le}
use Rattle.std.specs.declared.cmp.Ordering.{Ordering}
use Rattle.search.specs.Orders.{earlier, Irreflexive, Transitive, same}
use Rattle.search.specs.Places.{Lacks, Rising, Below, place_from, place_of, Answers, Border}
use Rattle.search.proofs.Ordering.{irreflexive, transitive, from_behind}
use Rattle.search.proofs.Parting.{first_before}

module _ {K R : Type 0} (before : K → K → Bool) (key : R → K) (transitive : Transitive before) where
  -- where the last of some rows stands before a key, the first does
  leads_key : (k : K) (r : R) (rs : List R) (n : ℕ) → Rising before key (r ∷ rs) → suc n ≤ length (r ∷ rs) → Below before key k (r ∷ rs) (suc n) → before (key r) k ≡ true
  leads_key k r rs zero up h below = below 0 r refl
  leads_key k r rs (suc i) up h below =
      transitive (key r) (key (get_or rs i r)) k (first_before before key transitive r rs up i r (omega arith)) (below (suc i) r (omega arith))

  below_rest : (k : K) (r : R) (rs : List R) (n : ℕ) → Below before key k (r ∷ rs) (suc n) → Below before key k rs n
  below_rest k r rs n below i d e = below (suc i) d (omega arith)

  -- rows before a key are passed over
  passed : (k : K) (rs : List R) (n m p : ℕ) → m + n ≡ p → Rising before key rs → n ≤ length rs → Below before key k rs n → place_from before key m k rs ≡ place_from before key p k (drop n rs)
  passed k rs zero m p e up h below = ap (λ (q : ℕ). place_from before key q k rs) (omega arith)
  passed k [] (suc n) m p e up h below = refl
  passed k (r ∷ rs) (suc n) m p e up h below =
      cond-false (same before (key r) k) _ _ (and_left _ _ (not_from_true _ (leads_key k r rs n up h below)))
      ∙ passed k rs n (m + 1) p (omega arith) up.1 (le_of_suc-le-suc h) (below_rest k r rs n below)

  rising_drop : (n : ℕ) (rs : List R) → Rising before key rs → Rising before key (drop n rs)
  rising_drop zero rs up = up
  rising_drop (suc n) [] up = tt
  rising_drop (suc n) (r ∷ rs) up = rising_drop n rs up.1

  -- no row has a key that stands before the first of them
  none_above : (k : K) (r : R) (rs : List R) (m : ℕ) → Rising before key (r ∷ rs) → before k (key r) ≡ true → place_from before key m k (r ∷ rs) ≡ None
  none_above k r [] m up h = cond-false (same before (key r) k) _ _ (and_right _ _ (not_from_true _ h))
  none_above k r (q ∷ qs) m up h =
      cond-false (same before (key r) k) _ _ (and_right _ _ (not_from_true _ h))
      ∙ none_above k q qs (m + 1) up.1 (transitive k (key r) (key q) h up.0)

  module _ (k : K) (rs : List R) (n : ℕ) (up : Rising before key rs) (border : Border before key k rs n) where
    -- the search goes on at the border
    from_border : place_of before key k rs ≡ place_from before key n k (drop n rs)
    from_border = passed k rs n 0 n (omega arith) up border.within border.below

    missed_end : length rs ≤ n → place_of before key k rs ≡ None
    missed_end h = from_border ∙ ap (place_from before key n k) (drop_all n rs h)

    module _ (d : R) (h : n < length rs) where
      at_border : place_of before key k rs ≡ place_from before key n k (get_or rs n d ∷ drop (n + 1) rs)
      at_border = from_border ∙ ap (place_from before key n k) (drop_more rs n d h)

      -- a key that does not stand before the row at the border is that row's
      found_here : before k (key (get_or rs n d)) ≡ false → place_of before key k rs ≡ Some n
      found_here e =
          at_border
          ∙ cond-true (same before (key (get_or rs n d)) k) _ _ (and_from _ _ (not_from_false _ (border.above d h)) (not_from_false _ e))

      missed_here : before k (key (get_or rs n d)) ≡ true → place_of before key k rs ≡ None
      missed_here e =
          at_border
          ∙ none_above k (get_or rs n d) (drop (n + 1) rs) n (subst (Rising before key) (drop_more rs n d h) (rising_drop n rs up)) e

rest-none : (b : Bool) (m : ℕ) (o : Option ℕ) → cond b (Some m) o ≡ None → o ≡ None
rest-none true m o h = cc
rest-none false m o h = h

module _ {K R : Type 0} (before : K → K → Bool) (key : R → K) (irreflexive : Irreflexive before) where
  same_from_equal : (a b : K) → a ≡ b → same before a b ≡ true
  same_from_equal a b e =
      let P : K → Type 0 = λ x. same before a x ≡ true in
      subst P e (and_from _ _ (not_from_false _ (irreflexive a)) (not_from_false _ (irreflexive a)))

  -- a row that has a key has a place
  lacks_from : (k : K) (rs : List R) (m : ℕ) → place_from before key m k rs ≡ None → Lacks key k rs
  lacks_from k [] m none i s = absurd (not-suc-le-zero s.within)
  lacks_from k (r ∷ rs) m none zero s =
      let here = cond-true (same before (key r) k) (Some m) (place_from before key (m + 1) k rs) (same_from_equal (key r) k (s.there r)) in
      let z : ◌≡◌ {A = ℕ} 0 1 = cc in
      omega arith
  lacks_from k (r ∷ rs) m none (suc i) s =
      lacks_from k rs (m + 1) (rest-none (same before (key r) k) m (place_from before key (m + 1) k rs) none) i
      (record { within = le_of_suc-le-suc s.within; there = s.there })

  answers : (k : K) (rs : List R) (o : Option ℕ) → place_of before key k rs ≡ o → Answers before key k rs o
  answers k rs o e = record { place = sym e; missing = λ none. lacks_from k rs 0 (e ∙ none) }

-- the answer by the row at the border of rising rows
module _ {K R : Type 0} {cmp : K → K → Ordering} (total : IsTotalOrder cmp) (key : R → K) (k : K) (rs : List R) (n : ℕ) (border : Border (earlier cmp) key k rs n) (up : Rising (earlier cmp) key rs) where
  answered : (o : Option ℕ) → place_of (earlier cmp) key k rs ≡ o → Answers (earlier cmp) key k rs o
  answered = answers (earlier cmp) key (irreflexive total) k rs

  pub at_end : (o : Option ℕ) → o ≡ None → length rs ≤ n → Answers (earlier cmp) key k rs o
  at_end o none h = answered o (missed_end (earlier cmp) key (transitive total) k rs n up border h ∙ sym none)

  pub at_row : (d : R) (b : Bool) (o : Option ℕ) → o ≡ then_some b n → n < length rs → is_le (cmp (key (get_or rs n d)) k) ≡ b → Answers (earlier cmp) key k rs o
  at_row d true o e h at =
      answered o
      (found_here (earlier cmp) key (transitive total) k rs n up border d h (from_behind total k (key (get_or rs n d)) ∙ ap not at) ∙ sym e)
  at_row d false o e h at =
      answered o
      (missed_here (earlier cmp) key (transitive total) k rs n up border d h (from_behind total k (key (get_or rs n d)) ∙ ap not at) ∙ sym e)
