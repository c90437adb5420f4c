-- What comes of an iterator whose items are known.
use Rattle.std.proofs.Common.{◌≡◌, ℕ, ◌+◌, ◌-◌, ◌<◌, ◌^◌, List, [], ◌∷◌, length, Option, Some, None, sym, ap, ◌∙◌, ⊎_elim, arith}
use Rattle.std.specs.Prelude.{MatchOption}
use Rattle.std.specs.Iterator.Adapters.{zip_first, zip_second, zip_steps}
use Rattle.std.specs.List.{enumerate_from}
use Rattle.std.specs.declared.iter.Zip.{Zip}
use Rattle.std.specs.declared.ops.RangeFrom.{RangeFrom}
use Rattle.std.proofs.lemmas.Iterator.{YieldsList}

-- the next item is the first, and the others are to come
pub record Next {S A B : Type 0} (steps : S → Option A → S → Type 0) (v : A → B) (ys : List B) (x : A) (t : S) : Type 0 where
  pub rest : List B
  pub is : ys ≡ v x ∷ rest
  pub come : YieldsList steps v t rest

module _ {S A B : Type 0} {steps : S → Option A → S → Type 0} {v : A → B} {s t : S} where
  pub comes_next : {x : A} (ys : List B) → YieldsList steps v s ys → steps s (Some x) t → Next steps v ys x t
  comes_next {x} [] road step = absurd (road.runs x t step)
  comes_next {x} (y ∷ ys) road step = let first = road.runs.1 x t step in record { rest = ys; is = ap (λ z. z ∷ ys) (sym first.0); come = record { runs = first.1 } }

  pub comes_none : (ys : List B) → YieldsList steps v s ys → steps s None t → ys ≡ []
  comes_none [] road step = search
  comes_none (y ∷ ys) road step = absurd (road.runs.0 t step)

-- numbers that rise by one, up to the last of a `usize`
abbrev pub numbers : RangeFrom ℕ → Option ℕ → RangeFrom ℕ → Type 0
numbers s r t = MatchOption r ((18446744073709551615 - s.start ≡ 0) × (t ≡ s)) (λ x. (x ≡ s.start) × (t.start ≡ x + 1))

-- items that come beside them have their numbers
module _ {T B C : Type 0} {others : T → Option B → T → Type 0} {w : B → C} where
  pub come_numbered : (a : ℕ) (ys : List C) (s : Zip (RangeFrom ℕ) T) → (zip_first s).start ≡ a → YieldsList others w (zip_second s) ys → a + length ys < 2 ^ 64 → YieldsList {B = ℕ × C} (zip_steps numbers others) (λ p. (p.0, w p.1)) s (enumerate_from a ys)
  come_numbered a [] s starts road fits = record { runs = λ x t step. road.runs x.1 (zip_second t) step.1 }
  come_numbered a (y ∷ ys) s starts road fits =
      record {
        runs = (
          (λ t none. ⊎_elim (λ e. let full : 18446744073709551615 - (zip_first s).start ≡ 0 = e.1.0 in absurd (omega arith)) (λ e. road.runs.0 e.0 e.1) none),
          λ x t step.
              let first = road.runs.1 x.1 (zip_second t) step.1 in
              let number = step.0.0 ∙ starts in
              ((λ i. (number i, first.0 i)), (come_numbered (a + 1) ys t (step.0.1 ∙ ap (λ n. n + 1) number) (record { runs = first.1 }) (omega arith)).runs),
        );
      }
