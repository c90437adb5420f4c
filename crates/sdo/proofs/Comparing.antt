-- What follows where toggles, or an announced size and a number of bytes, are found to be the same.
use Rattle.std.proofs.Common.{◌≡◌, ℕ, true, false, eqb, Some, None, Option, refl, eqb-true}
use Rattle.std.proofs.lemmas.Bool.{not-false}
use Rattle.sdo.specs.declared.toggle.Toggle.{Toggle}
use Rattle.sdo.specs.declared.toggle.Toggle.TheVariants.{Zero, One}
use Rattle.sdo.specs.Segments.{differs, same_toggle}

pub equal_toggles : (t u : Toggle) → same_toggle t u ≡ true → t ≡ u
equal_toggles Zero Zero e = refl
equal_toggles Zero One e = cc
equal_toggles One Zero e = cc
equal_toggles One One e = refl

pub as_announced : (o : Option ℕ) (n : ℕ) → differs o n ≡ false → (k : ℕ) → o ≡ Some k → n ≡ k
as_announced None n e k h = cc
as_announced (Some size) n e k h = let same : size ≡ n = eqb-true size n (not-false (eqb size n) e) in cc
