-- Lengths that fit an entry, and those that are lawful.
use Rattle.std.proofs.Common.{◌≡◌, ℕ, ◌≤◌, true, leb, None, arith}
use Rattle.std.proofs.lemmas.Bool.{and_parts, leb-true}
use Rattle.std.proofs.lemmas.Bool.Decides.{nat_tests}
use Rattle.dictionary.specs.declared.attributes.Attributes.{Attributes}
use Rattle.dictionary.specs.Plain.{fits, lawful_lengths, objection}

module _ (a : Attributes) (n : ℕ) where
  pub fits-longest : fits a n ≡ true → n ≤ a.longest
  fits-longest h = leb-true _ _ (and_parts (leb a.shortest n) _ h).1

  pub lawful_fits : lawful_lengths a n ≡ true → fits a n ≡ true
  lawful_fits h = (and_parts (leb a.longest 1024) _ (and_parts (leb a.shortest a.longest) _ (and_parts (leb 1 a.shortest) _ h).1).1).1

  pub lawful-bounded : lawful_lengths a n ≡ true → a.longest ≤ 1024
  lawful-bounded h = leb-true _ _ (and_parts (leb a.longest 1024) _ (and_parts (leb a.shortest a.longest) _ (and_parts (leb 1 a.shortest) _ h).1).1).0

  -- lengths that are lawful for one number of bytes are so for any that fits
  pub lawful_refit : (k : ℕ) → lawful_lengths a k ≡ true → fits a n ≡ true → lawful_lengths a n ≡ true
  lawful_refit k h fit = grind (arith, h, fit)

  -- what nothing speaks against fits
  pub objection-fits : objection a n ≡ None → fits a n ≡ true
  objection-fits h = grind (arith, nat_tests, h)
