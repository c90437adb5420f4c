-- What a line means whose first word is the name of a method, or none.
use Rattle.std.proofs.Common.{◌≡◌, ℕ, true, false, List, [], ◌∷◌, Option, Some, None, refl, ap, subst, ◌∙◌}
use Rattle.std.specs.Prelude.{is_none}
use denote.Ref.{Bor}
use Rattle.std.proofs.lemmas.Iterator.{YieldsList}
use Rattle.orders.specs.declared.fault.Fault.TheVariants.{NotMultiplexor}
use Rattle.master.specs.declared.method.Method.{Method}
use Rattle.orders.specs.Hex.{multiplexor_in}
use Rattle.orders.specs.Lines.{Meaning, faulty, order_at, order_from, order_in}
use Rattle.orders.specs.Methods.{method_named}
use Rattle.orders.proofs.Comes.{comes_next, comes_none}

from_unnamed : (n : Option Method) (w : List ℕ) (ws : List (List ℕ)) → is_none n ≡ true → order_from n w ws ≡ order_at None (multiplexor_in w) ws
from_unnamed None w ws none = refl
from_unnamed (Some t) w ws none = cc

from_named : (n : Option Method) (w x : List ℕ) (ws : List (List ℕ)) → is_none n ≡ false → order_from n w (x ∷ ws) ≡ order_at n (multiplexor_in x) ws
from_named None w x ws some = cc
from_named (Some t) w x ws some = refl

from_name : (n : Option Method) (w : List ℕ) → is_none n ≡ false → order_from n w [] ≡ faulty NotMultiplexor
from_name None w some = cc
from_name (Some t) w some = refl

-- an iterator from which the words come that are left, and what the line means over them
pub record Rest {S : Type 0} (steps : S → Option (Bor (List ℕ)) → S → Type 0) (s : S) (l : Meaning) (of : List (List ℕ) → Meaning) : Type 0 where
  pub words : List (List ℕ)
  pub come : YieldsList steps (λ w. w.now) s words
  pub meant : l ≡ of words

module _ {S : Type 0} {steps : S → Option (Bor (List ℕ)) → S → Type 0} {s t : S} {ws : List (List ℕ)} {x : Bor (List ℕ)} (road : YieldsList steps (λ w. w.now) s ws) (first : steps s (Some x) t) where
  pub behind_none : is_none (method_named x.now) ≡ true → Rest steps t (order_in ws) (order_at None (multiplexor_in x.now))
  behind_none none =
      let next = comes_next ws road first in
      record { words = next.rest; come = next.come; meant = ap order_in next.is ∙ from_unnamed (method_named x.now) x.now next.rest none }

  pub behind_name : {u : S} {y : Bor (List ℕ)} (r : Option (Bor (List ℕ))) → steps t r u → r ≡ Some y → is_none (method_named x.now) ≡ false → Rest steps u (order_in ws) (order_at (method_named x.now) (multiplexor_in y.now))
  behind_name {u} {y} r second is some =
      let next = comes_next ws road first in
      let after = comes_next {x = y} next.rest next.come (subst (λ r. steps t r u) is second) in
      record {
        words = after.rest;
        come = after.come;
        meant = ap order_in (next.is ∙ ap (λ l. x.now ∷ l) after.is) ∙ from_named (method_named x.now) x.now y.now after.rest some;
      }

  pub name_alone : {u : S} (r : Option (Bor (List ℕ))) → steps t r u → r ≡ None → is_none (method_named x.now) ≡ false → order_in ws ≡ faulty NotMultiplexor
  name_alone {u} r second is some =
      let next = comes_next ws road first in
      let after = comes_none next.rest next.come (subst (λ r. steps t r u) is second) in
      ap order_in (next.is ∙ ap (λ l. x.now ∷ l) after) ∙ from_name (method_named x.now) x.now some
