-- Nothing speaks against a read or a write exactly where an entry is there that allows it.
use Rattle.std.proofs.Common.{◌≡◌, ℕ, Bool, true, false, not, ltb, List, ◌++◌, length, Some, None, Option, sym, refl, ap, ◌∙◌}
use Rattle.std.proofs.lemmas.Bool.{false≢true, ltb-false, le-ltb, not-false}
use Rattle.wire.specs.declared.multiplexor.Multiplexor.{Multiplexor}
use Rattle.wire.specs.declared.abort_code.AbortCode.{AbortCode}
use Rattle.wire.specs.declared.abort_code.AbortCode.TheVariants.{NoObject, NoSubindex, ReadOnly, WriteOnly, LengthTooLow, LengthTooHigh, InvalidValue}
use Rattle.dictionary.specs.Accesses.{reads, writes}
use Rattle.dictionary.specs.Entries.{Entry, entry_at, has_index}
use Rattle.dictionary.specs.Laws.{CanRead, CanWrite, ReadDecided, WriteDecided}
use Rattle.dictionary.specs.Verdicts.{first_of, of_entry, is_there, presence, read_access, write_access, fitting, admission, read_verdict, write_verdict}
use Rattle.dictionary.proofs.Presence.{passed, verdict_present}

-- what is there is some entry
there-some : (o : Option Entry) → is_there o ≡ true → (e : Entry) × (o ≡ Some e)
there-some None h = absurd (false≢true h)
there-some (Some e) h = (e, refl)

-- what is said of what is there is said of the entry
of_some : (o : Option Entry) (e : Entry) (p : Entry → Bool) → o ≡ Some e → of_entry o p ≡ false → p e ≡ false
of_some o e p there h = sym (ap (λ (x : Option Entry). of_entry x p) there) ∙ h

module _ (d : List Entry) (m : Multiplexor) where
  -- an entry is there, and none of some tests applies
  record Present (ts : List (Bool × AbortCode)) : Type 0 where
    entry : Entry
    there : entry_at m d ≡ Some entry
    rest : first_of ts ≡ None

  present : (ts : List (Bool × AbortCode)) → first_of (presence d m ++ ts) ≡ None → Present ts
  present ts h =
      let index = passed (not (has_index m.index d)) NoObject _ h in
      let there = passed (not (is_there (entry_at m d))) NoSubindex _ index.1 in
      let some = there-some (entry_at m d) (not-false _ there.0) in
      record { entry = some.0; there = some.1; rest = there.1 }

  read_can : read_verdict d m ≡ None → CanRead d m
  read_can h =
      let o = entry_at m d in
      let p = present (read_access d m) h in
      let e = p.entry in
      let access = passed (of_entry o (λ f. not (reads f.access))) WriteOnly None p.rest in
      record { entry = e; there = p.there; access = not-false _ (of_some o e (λ f. not (reads f.access)) p.there access.0) }

  can_read : CanRead d m → read_verdict d m ≡ None
  can_read c = verdict_present m d (read_access d m) c.entry c.there ∙ simp (c.there, c.access)

  module _ (v : List ℕ) where
    -- the tests of a write behind those of presence
    abbrev objections : List (Bool × AbortCode)
    objections = write_access d m ++ (fitting d m (length v) ++ admission d m v)

    write_can : write_verdict d m v ≡ None → CanWrite d m v
    write_can h =
        let o = entry_at m d in
        let p = present objections h in
        let e = p.entry in
        let access = passed (of_entry o (λ f. not (writes f.access))) ReadOnly _ p.rest in
        let low = passed (of_entry o (λ f. ltb (length v) f.shortest)) LengthTooLow _ access.1 in
        let high = passed (of_entry o (λ f. ltb f.longest (length v))) LengthTooHigh _ low.1 in
        let admits = passed (of_entry o (λ f. not (f.admits v))) InvalidValue None high.1 in
        record {
          entry = e;
          there = p.there;
          access = not-false _ (of_some o e (λ f. not (writes f.access)) p.there access.0);
          long_enough = ltb-false _ _ (of_some o e (λ f. ltb (length v) f.shortest) p.there low.0);
          short_enough = ltb-false _ _ (of_some o e (λ f. ltb f.longest (length v)) p.there high.0);
          admitted = not-false _ (of_some o e (λ f. not (f.admits v)) p.there admits.0);
        }

    can_write : CanWrite d m v → write_verdict d m v ≡ None
    can_write c =
        let e = c.entry in
        let low = le-ltb (length v) e.shortest c.long_enough in
        let high = le-ltb e.longest (length v) c.short_enough in
        verdict_present m d objections e c.there ∙ simp (c.there, c.access, low, high, c.admitted)

pub read_decided : ReadDecided
read_decided d m = (read_can d m, can_read d m)

pub write_decided : WriteDecided
write_decided d m v = (write_can d m v, can_write d m v)
