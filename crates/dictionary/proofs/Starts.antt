-- The verdict on a write's start: by the entry's attributes, and against the verdict on the write.
use Rattle.std.proofs.Common.{◌≡◌, ℕ, Bool, true, false, List, [], ◌∷◌, ◌++◌, length, Some, None, Ok, Option, refl, ap, ◌∙◌, arith}
use Rattle.wire.specs.declared.multiplexor.Multiplexor.{Multiplexor}
use Rattle.wire.specs.declared.abort_code.AbortCode.{AbortCode}
use Rattle.dictionary.specs.declared.attributes.Attributes.{Attributes}
use Rattle.dictionary.specs.Entries.{Entry, entry_at}
use Rattle.dictionary.specs.Laws.{StartDecided}
use Rattle.dictionary.specs.Plain.{start_objection}
use Rattle.dictionary.specs.Questions.{attributes, attributes_of, attributes_or, absence}
use Rattle.dictionary.specs.Verdicts.{first_of, presence, write_access, fitting, fitting_size, admission, start_verdict}
use Rattle.dictionary.proofs.Presence.{verdict_present}

-- the first of some tests is the first of more
first_front : (ts us : List (Bool × AbortCode)) (c : AbortCode) → first_of ts ≡ Some c → first_of (ts ++ us) ≡ Some c
first_front [] us c e = let z : ◌≡◌ {A = ℕ} 0 1 = cc in absurd (omega arith)
first_front ((true, x) ∷ ts) us c e = e
first_front ((false, x) ∷ ts) us c e = first_front ts us c e

pub start_decided : StartDecided
start_decided d m None c e v sized = first_front (presence d m ++ write_access d m) (fitting d m (length v) ++ admission d m v) c e
start_decided d m (Some n) c e v sized =
    first_front (presence d m ++ (write_access d m ++ fitting d m (length v))) (admission d m v) c (ap (λ k. start_verdict d m (Some k)) sized ∙ e)

module _ (d : List Entry) (m : Multiplexor) (size : Option ℕ) where
  -- an entry that is there: its attributes decide
  objected : (z : Option ℕ) (e : Entry) → entry_at m d ≡ Some e → first_of (write_access d m ++ fitting_size d m z) ≡ start_objection (attributes_of e) z
  objected None e h = simp h
  objected (Some n) e h = simp h

  found : (o : Option Entry) → entry_at m d ≡ o → (a : Attributes) → Ok a ≡ attributes_or (absence d m) o → start_verdict d m size ≡ start_objection a size
  found None h a e = let z : ◌≡◌ {A = ℕ} 0 1 = cc in absurd (omega arith)
  found (Some x) h a e =
      let same : attributes_of x ≡ a = cc in
      verdict_present m d (write_access d m ++ fitting_size d m size) x h ∙ objected size x h ∙ ap (λ b. start_objection b size) same

  pub start-there : (a : Attributes) → Ok a ≡ attributes d m → start_verdict d m size ≡ start_objection a size
  start-there a e = found (entry_at m d) refl a e
