-- Two rows of places read one behind the other: what a place put into the second, or the second put over the first, leaves of the newest.
use Rattle.std.proofs.Common.{◌≡◌, ℕ, ◌+◌, ◌-◌, ◌*◌, ◌<◌, ◌≤◌, List, [], ◌∷◌, ◌++◌, length, get_or, map, take, drop, set, slice_range, sym, ap, ◌∙◌, arith, length-append, length-drop}
use Rattle.std.proofs.lemmas.List.{append-nil, drop-append-le, drop-set-add, drop_at, set-append_left, set-append_right, take_all, take-append-le, take_more_set}
use Rattle.std.proofs.lemmas.Grind.{common_steps}
use Rattle.line.specs.Records.{newest, kept_in}

-- what is kept of the newest and one more are the newest of all
newest_more : {A : Type 0} (room : ℕ) (xs : List A) (x : A) → newest room (newest room xs ++ x ∷ []) ≡ newest room (xs ++ x ∷ [])
newest_more room xs x = grind (arith, common_steps)

-- the second row put over the first leaves two rows of the same length
pub sized_again : {A : Type 0} (room : ℕ) (rows : List (List A)) → map length rows ≡ room ∷ room ∷ [] → map length (drop 1 rows ++ drop 1 rows) ≡ room ∷ room ∷ []
sized_again room (first ∷ second ∷ []) sized = cc
sized_again room [] sized = cc
sized_again room (first ∷ []) sized = cc
sized_again room (first ∷ second ∷ third ∷ rows) sized = cc

module _ {A : Type 0} (room start : ℕ) (within : start ≤ room) where
  -- a place past the others gets one more
  grown : (xs : List A) (end : ℕ) (x : A) → start ≤ end → end < length xs → slice_range (set xs end x) start (end + 1) ≡ slice_range xs start end ++ x ∷ []
  grown xs end x before here =
      let count = end - start in
      let place : end ≡ start + count = omega (arith, before) in
      let more : end + 1 - start ≡ count + 1 = omega (arith, before) in
      ap (λ (i : ℕ). take (end + 1 - start) (drop start (set xs i x))) place
      ∙ ap (λ (n : ℕ). take n (drop start (set xs (start + count) x))) more
      ∙ ap (take (count + 1)) (drop-set-add start xs count x)
      ∙ take_more_set (drop start xs) count x (simp length-drop (omega (arith, before, here)))

  -- the second row put over the first, and read from the start of both on
  pub turned : (rows : List (List A)) → map length rows ≡ room ∷ room ∷ [] → kept_in room (drop 1 rows ++ drop 1 rows) 0 room ≡ kept_in room rows start 0
  turned (first ∷ second ∷ []) sized =
      let one : length first ≡ room = cc in
      let other : length second ≡ room = cc in
      let front : take (2 * room - room - 0) (second ++ (second ++ [])) ≡ second =
      take-append-le (2 * room - room - 0) second (second ++ []) (omega (arith, other)) ∙ take_all (2 * room - room - 0) second (omega (arith, other)) in
      let rest : take (2 * room - 0 - start) (drop start (first ++ (second ++ []))) ≡ drop start first ++ second =
      ap (take (2 * room - 0 - start)) (drop-append-le start first (second ++ []) (omega (arith, one, within)) ∙ ap (λ (row : List A). drop start first ++ row) (append-nil second))
      ∙ take_all (2 * room - 0 - start) (drop start first ++ second) (simp (length-append, length-drop) (omega (arith, one, other, within))) in
      let none : length second - room ≡ 0 = omega (arith, other) in
      let behind : drop (length (drop start first ++ second) - room) (drop start first ++ second) ≡ second =
      drop_at (drop start first) second (length (drop start first ++ second) - room) (simp (length-append, length-drop) (omega (arith, one, other, within))) in
      ap (newest room) front
      ∙ ap (λ (n : ℕ). drop n second) none
      ∙ sym behind
      ∙ ap (newest room) (sym rest)
  turned [] sized = cc
  turned (first ∷ []) sized = cc
  turned (first ∷ second ∷ third ∷ rows) sized = cc

  -- one more put into the first free place
  pub stored : (rows : List (List A)) → map length rows ≡ room ∷ room ∷ [] → (free : ℕ) (x : A) → 0 < free → free ≤ room → kept_in room (set rows 1 (set (get_or rows 1 []) (room - free) x)) start (free - 1) ≡ newest room (kept_in room rows start free ++ x ∷ [])
  stored (first ∷ second ∷ []) sized free x some few =
      let one : length first ≡ room = cc in
      let other : length second ≡ room = cc in
      let xs = first ++ (second ++ []) in
      let end = 2 * room - free in
      let more : 2 * room - (free - 1) ≡ end + 1 = omega (arith, some, few) in
      let place : end - room ≡ room - free = omega (arith, few) in
      let behind = set-append_right first (second ++ []) room end x one (omega (arith, few)) in
      let there = set-append_left second [] (room - free) x (omega (arith, some, few, other)) in
      let written : first ++ (set second (room - free) x ++ []) ≡ set xs end x =
      ap (λ (row : List A). first ++ row) (sym there ∙ ap (λ (i : ℕ). set (second ++ []) i x) (sym place)) ∙ sym behind in
      ap (λ (ys : List A). newest room (slice_range ys start (2 * room - (free - 1)))) written
      ∙ ap (λ (n : ℕ). newest room (slice_range (set xs end x) start n)) more
      ∙ ap (newest room) (grown xs end x (omega (arith, few, within)) (simp length-append (omega (arith, one, other, some, few))))
      ∙ sym (newest_more room (slice_range xs start end) x)
  stored [] sized free x some few = cc
  stored (first ∷ []) sized free x some few = cc
  stored (first ∷ second ∷ third ∷ rows) sized free x some few = cc
