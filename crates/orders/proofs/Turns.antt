-- A text read line by line.
use Rattle.std.proofs.Common.{◌≡◌, ℕ, ◌+◌, List, [], ◌∷◌, ◌++◌, map, vec_items, Option, Some, None, refl, sym, ap, ◌∙◌, append_assoc, append-nil}
use denote.Ref.{Bor}
use Rattle.std.specs.List.{enumerate_from}
use Rattle.std.proofs.lemmas.Iterator.{YieldsList}
use Rattle.orders.specs.declared.reading.Reading.{Reading}
use Rattle.orders.specs.Lines.{line_meaning}
use Rattle.orders.specs.Texts.{content, orders_on, orders_in, bad_on, bad_in, Adds}

-- a reading of the first of some lines, and an iterator from which the others are to come with their numbers
pub record Sofar {S : Type 0} (steps : S → Option (ℕ × Bor (List ℕ)) → S → Type 0) (lines : List (List ℕ)) (s : S) (x : Reading) : Type 0 where
  pub number : ℕ
  pub rest : List (List ℕ)
  pub come : YieldsList {B = ℕ × List ℕ} steps (λ p. (p.0, p.1.now)) s (enumerate_from number rest)
  pub orders : map content (vec_items x.orders) ++ orders_in rest ≡ orders_in lines
  pub bad : vec_items x.bad ++ bad_in number rest ≡ bad_in 1 lines

module _ {S : Type 0} {steps : S → Option (ℕ × Bor (List ℕ)) → S → Type 0} {lines : List (List ℕ)} {s t : S} {x : Reading} (h : Sofar steps lines s x) where
  pub one_more : {n : ℕ} {line : Bor (List ℕ)} {y : Reading} → steps s (Some (n, line)) t → Adds n (line_meaning line.now) x y → Sofar steps lines t y
  one_more {n} {line} {y} step added =
      let os = map content (vec_items x.orders) in
      let bs = vec_items x.bad in
      elim h.rest as (λ rest. YieldsList {B = ℕ × List ℕ} steps (λ p. (p.0, p.1.now)) s (enumerate_from h.number rest) → os ++ orders_in rest ≡ orders_in lines → bs ++ bad_in h.number rest ≡ bad_in 1 lines → Sofar steps lines t y) [
        | [] ↦ λ come orders bad. absurd (come.runs _ _ step)
        | l ∷ ls ↦ λ come orders bad.
            let first = come.runs.1 _ _ step in
            let number : n ≡ h.number = ap (λ p. p.0) first.0 in
            let same : line.now ≡ l = ap (λ p. p.1) first.0 in
            record {
              number = h.number + 1;
              rest = ls;
              come = record { runs = first.1 };
              orders = ap (λ o. o ++ orders_in ls) added.orders ∙ append_assoc os (orders_on (line_meaning line.now)) (orders_in ls) ∙ ap (λ m. os ++ (orders_on (line_meaning m) ++ orders_in ls)) same ∙ orders;
              bad = ap (λ b. b ++ bad_in (h.number + 1) ls) added.bad ∙ append_assoc bs (bad_on n (line_meaning line.now)) (bad_in (h.number + 1) ls) ∙ (λ i. bs ++ (bad_on (number i) (line_meaning (same i)) ++ bad_in (h.number + 1) ls)) ∙ bad;
            }
      ] h.come h.orders h.bad

  ended : steps s None t → h.rest ≡ []
  ended step = elim h.rest as (λ rest. YieldsList {B = ℕ × List ℕ} steps (λ p. (p.0, p.1.now)) s (enumerate_from h.number rest) → rest ≡ []) [ [] ↦ λ come. refl | l ∷ ls ↦ λ come. absurd (come.runs.0 _ step) ] h.come

  pub all_orders : steps s None t → map content (vec_items x.orders) ≡ orders_in lines
  all_orders step = sym (append-nil _) ∙ sym (ap (λ l. map content (vec_items x.orders) ++ orders_in l) (ended step)) ∙ h.orders

  pub all_bad : steps s None t → vec_items x.bad ≡ bad_in 1 lines
  all_bad step = sym (append-nil _) ∙ sym (ap (λ l. vec_items x.bad ++ bad_in h.number l) (ended step)) ∙ h.bad
