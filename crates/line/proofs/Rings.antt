-- A ring read from its first place on: an item stored behind the others comes last, the first taken leaves the others.
use Rattle.std.proofs.Common.{◌≡◌, ℕ, zero, suc, ◌+◌, ◌-◌, ◌<◌, ◌≤◌, List, [], ◌∷◌, ◌++◌, length, get_or, take, drop, set, ap, ◌∙◌, arith, length-append, length-drop, length-take}
use Rattle.std.proofs.Math.Seq.{take-set-lt}
use Rattle.std.proofs.lemmas.List.{append_assoc, append-nil, drop_all, drop_more, drop-set-add, drop-set-lt, set-append_left, set-append_right, take_all, take-append-le, take_more, take_more_set, take-set-le}
use Rattle.line.specs.Queues.{read_from, held}

module _ {A : Type 0} (room first : ℕ) (xs : List A) (size : length xs ≡ room) (within : first ≤ room - 1) where
  pub held-length : (count : ℕ) → count ≤ room → length (held first count xs) ≡ count
  held-length count few = simp (length-take, length-append, length-drop) (omega arith)

  stored : (count place : ℕ) (x : A) → count < room → read_from first (set xs place x) ≡ set (read_from first xs) count x → held first (count + 1) (set xs place x) ≡ held first count xs ++ x ∷ []
  stored count place x some written =
      ap (take (count + 1)) written
      ∙ take_more_set (read_from first xs) count x (simp (length-append, length-drop, length-take) (omega arith))

  -- a place before the end of the ring
  pub stored_before_end : (count : ℕ) (x : A) → count < room - first → held first (count + 1) (set xs (first + count) x) ≡ held first count xs ++ x ∷ []
  stored_before_end count x here =
      let a = drop-set-add first xs count x in
      let b = take-set-le first xs (first + count) x (omega arith) in
      let s = set-append_left (drop first xs) (take first xs) count x (simp length-drop (omega arith)) in
      stored count (first + count) x (omega arith) cc

  -- a place past it, from the start on
  pub stored_past_end : (count : ℕ) (x : A) → room - first ≤ count → count < room → held first (count + 1) (set xs (count - (room - first)) x) ≡ held first count xs ++ x ∷ []
  stored_past_end count x past some =
      let place = count - (room - first) in
      let a = drop-set-lt first xs place x (omega arith) in
      let b = take-set-lt first xs place x (omega arith) in
      let s = set-append_right (drop first xs) (take first xs) (room - first) count x (simp length-drop (omega arith)) past in
      stored count place x some cc

  -- past the end the ring goes on from its start
  pub read_round : first + 1 ≡ room → read_from 0 xs ≡ read_from (first + 1) xs
  read_round end =
      let a = drop_all (first + 1) xs (omega arith) in
      let b = take_all (first + 1) xs (omega arith) in
      let n = append-nil xs in
      cc

  -- the first is taken, and the others begin at the place behind it
  pub first_taken : (next count : ℕ) (d : A) → read_from next xs ≡ read_from (first + 1) xs → 0 < count → count ≤ room → held first count xs ≡ get_or xs first d ∷ held next (count - 1) xs
  first_taken next zero d behind some few = absurd (omega arith)
  first_taken next (suc n) d behind some few =
      let x = get_or xs first d in
      let others = drop (first + 1) xs ++ take first xs in
      let less : suc n - 1 ≡ n = omega arith in
      let a = drop_more xs first d (omega arith) in
      let b = take_more xs first d (omega arith) in
      let s = append_assoc (drop (first + 1) xs) (take first xs) (x ∷ []) in
      let t = take-append-le n others (x ∷ []) (simp (length-append, length-drop, length-take) (omega arith)) in
      let begin : held first (suc n) xs ≡ x ∷ take n others = ap (λ (front : List A). take (suc n) (front ++ take first xs)) a in
      cc behind
