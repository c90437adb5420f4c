-- What it says of a dictionary's answers that an entry is there, and at which place.
use Rattle.std.proofs.Common.{◌≡◌, ℕ, zero, suc, ◌+◌, ◌<◌, ◌≤◌, Bool, true, false, cond, List, [], ◌∷◌, ◌++◌, length, get_or, Some, None, Ok, Err, Option, refl, ap, arith}
use Rattle.std.proofs.lemmas.Bool.Decides.{nat_tests}
use Rattle.wire.specs.declared.multiplexor.Multiplexor.{Multiplexor}
use Rattle.wire.specs.declared.abort_code.AbortCode.{AbortCode}
use Rattle.wire.specs.declared.abort_code.AbortCode.TheVariants.{WriteOnly}
use Rattle.dictionary.specs.declared.attributes.Attributes.{Attributes}
use Rattle.dictionary.specs.Accesses.{reads}
use Rattle.dictionary.specs.Commits.{decided, set_unless, committed}
use Rattle.dictionary.specs.Entries.{Entry, entry_at, has_index, put}
use Rattle.dictionary.specs.Places.{place_from, put_at}
use Rattle.dictionary.specs.Plain.{plain, objection}
use Rattle.dictionary.specs.Verdicts.{first_of, presence, read_access, write_access, fitting, admission, read_verdict, write_verdict}

-- where nothing applies, neither a first test does nor what follows it
pub passed : {C : Type 0} (b : Bool) (x : C) (rest : Option C) → cond b (Some x) rest ≡ None → (b ≡ false) × (rest ≡ None)
passed true x rest h = let z : ◌≡◌ {A = ℕ} 0 1 = cc in absurd (omega arith)
passed false x rest h = (refl, h)

-- what is decided well has nothing against it, and else what was said
pub decided-ok : {C : Type 0} (o : Option C) → Ok tt ≡ decided o → o ≡ None
decided-ok None e = refl
decided-ok (Some c) e = grind arith

pub decided-err : {C : Type 0} (o : Option C) (c : C) → Err c ≡ decided o → o ≡ Some c
decided-err None c e = grind arith
decided-err (Some d) c e = grind arith

module _ (m : Multiplexor) where
  -- the entry at a multiplexor has its index
  index-there : (d : List Entry) (e : Entry) → entry_at m d ≡ Some e → has_index m.index d ≡ true
  index-there [] e h = grind arith
  index-there (f ∷ fs) e h =
      let ih = index-there fs e in grind (arith, nat_tests, ih)

  -- where there is one, the verdict goes by the tests behind
  pub verdict_present : (d : List Entry) (ts : List (Bool × AbortCode)) (e : Entry) → entry_at m d ≡ Some e → first_of (presence d m ++ ts) ≡ first_of ts
  verdict_present d ts e h = let i = index-there d e h in grind (arith, h, i)

  -- the verdict on a read of an entry
  pub read_present : (d : List Entry) (e : Entry) → entry_at m d ≡ Some e → read_verdict d m ≡ cond (reads e.access) None (Some WriteOnly)
  read_present d e h = let p = verdict_present d (read_access d m) e h in grind (arith, h, p)

  -- the verdict on a write to an entry of a table
  pub write_present : (d : List Entry) (n : Multiplexor) (a : Attributes) (w v : List ℕ) → entry_at m d ≡ Some (plain n a w) → write_verdict d m v ≡ objection a (length v)
  write_present d n a w v h =
      let p = verdict_present d (write_access d m ++ (fitting d m (length v) ++ admission d m v)) (plain n a w) h in grind (arith, nat_tests, h, p)

  -- where none has a place, there is none
  pub absent_from : (d : List Entry) (n : ℕ) → place_from n m d ≡ None → entry_at m d ≡ None
  absent_from [] n h = refl
  absent_from (e ∷ es) n h = let ih = absent_from es (n + 1) in grind (arith, ih)

  -- a place is within the list
  pub place_bounds : (d : List Entry) (n k : ℕ) → place_from n m d ≡ Some k → (n ≤ k) × (k < n + length d)
  place_bounds [] n k h = grind arith
  place_bounds (e ∷ es) n k h = let ih = place_bounds es (n + 1) k in (grind (arith, ih), grind (arith, ih))

  -- the entry at a multiplexor is the one at its place
  pub entry_from : (d : List Entry) (n i k : ℕ) (x : Entry) → k ≡ n + i → place_from n m d ≡ Some k → entry_at m d ≡ Some (get_or d i x)
  entry_from [] n i k x e h = grind arith
  entry_from (f ∷ fs) n zero k x e h = let b = place_bounds fs (n + 1) k in grind (arith, b)
  entry_from (f ∷ fs) n (suc i) k x e h = let ih = entry_from fs (n + 1) i k x (omega arith) in grind (arith, ih)

  -- setting its value is setting the one at its place
  pub put_from : (v : List ℕ) (d : List Entry) (n i k : ℕ) → k ≡ n + i → place_from n m d ≡ Some k → put m v d ≡ put_at i v d
  put_from v [] n i k e h = refl
  put_from v (f ∷ fs) n zero k e h = let b = place_bounds fs (n + 1) k in grind (arith, b)
  put_from v (f ∷ fs) n (suc i) k e h = let ih = put_from v fs (n + 1) i k (omega arith) in grind (arith, ih)

  -- what nothing speaks against is set
  pub committed_well : (d : List Entry) (v : List ℕ) → write_verdict d m v ≡ None → committed d m v ≡ put m v d
  committed_well d v h = ap (λ (w : Option AbortCode). set_unless w m v d) h
