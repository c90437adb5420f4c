-- Where the rows before a key end, rising rows part: each row below stands before the key, and none above does.
use Rattle.std.proofs.Common.{◌≡◌, ℕ, zero, suc, ◌+◌, ◌-◌, ◌<◌, ◌≤◌, Bool, true, false, ltb, List, [], ◌∷◌, length, get_or, subst, inl, inr, le_of_suc-le-suc, not-suc-le-zero, arith}
use Rattle.std.proofs.lemmas.Bool.{both_ways, cases_Bool, ltb-true, ltb-false}
use Rattle.search.specs.Orders.{Transitive}
use Rattle.search.specs.Places.{Rising, Border, Parts}

module _ {K R : Type 0} (before : K → K → Bool) (key : R → K) (transitive : Transitive before) where
  -- a row stands before all that follow it
  pub first_before : (r : R) (rs : List R) → Rising before key (r ∷ rs) → (i : ℕ) (d : R) → i < length rs → before (key r) (key (get_or rs i d)) ≡ true
  first_before r [] up i d h = absurd (not-suc-le-zero h)
  first_before r (q ∷ qs) up zero d h = up.0
  first_before r (q ∷ qs) up (suc i) d h =
      transitive (key r) (key q) (key (get_or qs i d)) up.0 (first_before q qs up.1 i d (le_of_suc-le-suc h))

  row_before : (rs : List R) → Rising before key rs → (i j : ℕ) (d : R) → i < j → j < length rs → before (key (get_or rs i d)) (key (get_or rs j d)) ≡ true
  row_before [] up i j d l h = absurd (not-suc-le-zero h)
  row_before (r ∷ rs) up i zero d l h = absurd (not-suc-le-zero l)
  row_before (r ∷ rs) up zero (suc j) d l h = first_before r rs up j d (le_of_suc-le-suc h)
  row_before (r ∷ rs) up (suc i) (suc j) d l h = row_before rs up.1 i j d (le_of_suc-le-suc l) (le_of_suc-le-suc h)

  module _ (k : K) (rs : List R) (n : ℕ) (border : Border before key k rs n) (up : Rising before key rs) where
    all_below : (i : ℕ) (d : R) → i < n → before (key (get_or rs i d)) k ≡ true
    all_below i d l =
        let within = border.within in
        elim (cases_Bool (ltb (i + 1) n)) [
          | inl t ↦
              let more = ltb-true (i + 1) n t in
              let j = n - 1 in
              transitive (key (get_or rs i d)) (key (get_or rs j d)) k (row_before rs up i j d (omega arith) (omega arith)) (border.below j d (omega arith))
          | inr t ↦ let last = ltb-false (i + 1) n t in border.below i d (omega arith)
        ]

    none_above : (i : ℕ) (d : R) → n ≤ i → i < length rs → before (key (get_or rs i d)) k ≡ false
    none_above i d l h =
        let first = border.above d (omega arith) in
        elim (cases_Bool (before (key (get_or rs i d)) k)) [
          | inl t ↦
              elim (cases_Bool (ltb n i)) [
                | inl u ↦
                    absurd (both_ways (before (key (get_or rs n d)) k) first
                    (transitive (key (get_or rs n d)) (key (get_or rs i d)) k (row_before rs up n i d (ltb-true n i u) h) t))
                | inr u ↦
                    let bound = ltb-false n i u in
                    let here : n ≡ i = omega arith in
                    let P : ℕ → Type 0 = λ j. before (key (get_or rs j d)) k ≡ false in
                    subst P here first
              ]
          | inr t ↦ t
        ]

    pub parts : Parts before key k rs n
    parts = record { below = all_below; above = none_above }
