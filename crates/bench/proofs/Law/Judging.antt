-- What a verdict tells: its code can go into a frame, and a value that may be read has a length that a value can have.
use Rattle.std.proofs.Common.{◌≡◌, ◌≤◌, Bool, true, false, List, [], ◌∷◌, ◌++◌, length, Some, None, Option, ap, subst, arith, lit<}
use Rattle.std.proofs.lemmas.Bool.{cond_both}
use Rattle.wire.specs.declared.multiplexor.Multiplexor.{Multiplexor}
use Rattle.wire.specs.declared.abort_code.AbortCode.{AbortCode}
use Rattle.sdo.specs.Fits.{Proper}
use Rattle.wire.specs.Multiplexors.{same}
use Rattle.dictionary.specs.Entries.{Entry, Sound, Lawful, entry_at}
use Rattle.dictionary.specs.Questions.{value_of, value_at}
use Rattle.dictionary.specs.Verdicts.{first_of, presence, read_access, write_access, fitting, admission, read_verdict}
use Rattle.dictionary.proofs.Deciding.{read_decided}
use Rattle.master.specs.States as master
use Rattle.master.specs.declared.direction.Direction.{Direction}
use Rattle.master.specs.declared.direction.Direction.TheVariants as way
use Rattle.bench.proofs.Law.Exchange.{verdict}

-- the codes of some tests go into a frame, and so does the first that applies
abbrev Coded : List (Bool × AbortCode) → Type 0
Coded [] = Unit {0}
Coded (t ∷ ts) = Proper t.1 × Coded ts

first_proper : (ts : List (Bool × AbortCode)) → Coded ts → (c : AbortCode) → first_of ts ≡ Some c → Proper c
first_proper [] h c e = cc
first_proper ((true, x) ∷ ts) h c e = let is : x ≡ c = cc in subst Proper is h.0
first_proper ((false, x) ∷ ts) h c e = first_proper ts h.1 c e

pub verdict_proper : (dir : Direction) (d : List Entry) (M : master.State) (c : AbortCode) → verdict dir d M ≡ Some c → Proper c
verdict_proper way.Upload d M c e =
    first_proper (presence d M.multiplexor ++ read_access d M.multiplexor) (lit< tt, (lit< tt, (lit< tt, tt))) c e
verdict_proper way.Download d M c e =
    first_proper (presence d M.multiplexor ++ (write_access d M.multiplexor ++ (fitting d M.multiplexor (length M.value) ++ admission d M.multiplexor M.value)))
    (lit< tt, (lit< tt, (lit< tt, (lit< tt, (lit< tt, (lit< tt, tt)))))) c e

-- the entry at a multiplexor is sound, where there is one
abbrev SoundIf : Option Entry → Type 0
SoundIf None = Unit {0}
SoundIf (Some e) = Sound e

sound_at : (m : Multiplexor) (d : List Entry) → Lawful d → SoundIf (entry_at m d)
sound_at m [] law = tt
sound_at m (e ∷ es) law = cond_both (same e.at m) (Some e) (entry_at m es) SoundIf (λ yes. law.0) (λ no. sound_at m es law.2)

pub value_sized : (d : List Entry) → Lawful d → (m : Multiplexor) → read_verdict d m ≡ None → (1 ≤ length (value_at d m)) × (length (value_at d m) ≤ 1024)
value_sized d law m e =
    let can = (read_decided d m).0 e in
    let sound : Sound can.entry = subst SoundIf can.there (sound_at m d law) in
    let is : value_at d m ≡ can.entry.value = ap value_of can.there in
    rw is (omega (arith, sound), omega (arith, sound))
