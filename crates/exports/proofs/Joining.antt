-- Transfers one behind the other.
use Rattle.std.proofs.Common.{◌≡◌, ℕ, ◌+◌, Bool, false, true, cond, List, [], ◌∷◌, ◌++◌, None, Option, Result, refl, sym, ap, ◌∙◌, subst, append_assoc, arith}
use Rattle.std.proofs.lemmas.List.{append-nil}
use Rattle.wire.specs.declared.multiplexor.Multiplexor.{Multiplexor}
use Rattle.sdo.specs.Fits.{Indexed}
use Rattle.master.specs.Calls.{Order, Read, Write}
use Rattle.master.specs.declared.method.Method.TheVariants.{Block}
use Rattle.master.specs.declared.refusal.BeginRefusal.{BeginRefusal}
use Rattle.master.specs.States.{uncleared}
use Rattle.report.specs.declared.report.Outcome.{Outcome}
use Rattle.report.specs.declared.report.Report.{Report}
use Rattle.bench.specs.Model.States.{State}
use Rattle.bench.specs.Model.Calls.{begin_answer, begin_frames, begin_step}
use Rattle.bench.specs.Law.Runs.{Act, Begin}
use Rattle.bench.specs.Tickets.{held_after}
use Rattle.bench.proofs.Held.{begin_holds}
use Rattle.bench.proofs.Law.Runs.{begin_happened}
use Rattle.rounds.specs.Rounds.{CarriesOut, Went}
use Rattle.rounds.proofs.Went.{went_nowhere, went_by, went_on}
use Rattle.exports.specs.Transfers.{transfer, none, more, OneTold, Counted, Reads, reports, is_written, is_read}
use Rattle.exports.proofs.Counting.{told_more, told_carried_out}

module _ (such : Outcome → Bool) (m : Multiplexor) (o : Order) where
  told_behind : (r : Result ℕ BeginRefusal) (report : Option Report) (buffer after : List ℕ) (xs ys : List Act) → xs ≡ Begin m o r ∷ [] → CarriesOut (held_after r None) report buffer after ys → OneTold such m o (reports such report) (xs ++ ys)
  told_behind r report buffer after xs ys begun carried =
      let told = told_carried_out such _ report buffer after ys carried in
      subst (λ zs. OneTold such m o (reports such report) (zs ++ ys)) (sym begun) (transfer r report buffer after ys carried, omega arith)

  -- a begin where no ticket is out, and what was carried out then
  pub transfer_went : {r : Result ℕ BeginRefusal} (held now : Option ℕ) (report : Option Report) (buffer after : List ℕ) (s t u : State) → Indexed m → held ≡ None → held ≡ uncleared s.master → now ≡ uncleared t.master → r ≡ begin_answer m o s → (ls : List Bool) × (t ≡ begin_step m o ls s) → Went (CarriesOut now report buffer after) t u → Went (OneTold such m o (reports such report)) s u
  transfer_went {r} held now report buffer after s t u indexed out own holds answer stepped carried =
      let got : held_after r None ≡ now = begin_holds m o r None (held_after r None) s t (sym out ∙ own) refl answer stepped ∙ sym holds in
      let begun = λ (xs : List Act). xs ≡ Begin m o r ∷ [] in
      went_on begun (CarriesOut now report buffer after) (OneTold such m o (reports such report)) s t u
      (λ xs ys is all. told_behind r report buffer after xs ys is (subst (λ k. CarriesOut k report buffer after ys) (sym got) all))
      (went_by (λ xs. xs ≡ []) begun (Begin m o r) (begin_frames m o s) s s t (λ xs is. ap (λ zs. zs ++ Begin m o r ∷ []) is) (went_nowhere (λ xs. xs ≡ []) s refl) (begin_happened m o s indexed answer stepped))
      carried

  pub counted_none : Counted such m o 0 0 []
  counted_none = (none, refl)

  -- one transfer more
  pub counted_more : (n good : ℕ) (told : Bool) (xs ys : List Act) → Counted such m o n good xs → OneTold such m o told ys → Counted such m o (n + 1) (good + cond told 1 0) (xs ++ ys)
  counted_more n good told xs ys all one =
      let both = told_more such xs ys in
      let first = all.1 in
      let then = one.1 in
      (more n xs ys all.0 one.0, omega arith)

module _ (m : Multiplexor) (v : List ℕ) where
  pub reads_none : (told : Bool) (xs : List Act) → OneTold is_written m (Write Block v) told xs → Reads m v 0 0 xs
  reads_none told xs one = (xs, [], one.0, counted_none is_read m Read, sym (append-nil xs))

  -- one read more
  pub reads_more : (n good : ℕ) (told : Bool) (zs us : List Act) → Reads m v n good zs → OneTold is_read m Read told us → Reads m v (n + 1) (good + cond told 1 0) (zs ++ us)
  reads_more n good told zs us all one = (all.0, all.1 ++ us, all.2, counted_more is_read m Read n good told all.1 us all.3 one, ap (λ xs. xs ++ us) all.4 ∙ append_assoc all.0 all.1 us)

-- where a bench went by so many transfers, it goes by one more with one behind them
pub went_more : (many : ℕ → ℕ → List Act → Type 0) (one : Bool → List Act → Type 0) → ((n good : ℕ) (told : Bool) (xs ys : List Act) → many n good xs → one told ys → many (n + 1) (good + cond told 1 0) (xs ++ ys)) → (n good now : ℕ) (told : Bool) (s t u : State) → now ≡ good + cond told 1 0 → Went (many n good) s t → Went (one told) t u → Went (many (n + 1) now) s u
went_more many one joined n good now told s t u added before last =
    subst (λ k. Went (many (n + 1) k) s u) (sym added) (went_on (many n good) (one told) (many (n + 1) (good + cond told 1 0)) s t u (λ xs ys all new. joined n good told xs ys all new) before last)

-- what a transfer that told such an outcome adds, and one that did not
pub adds_one : (told : Bool) (good now : ℕ) → told ≡ true → now ≡ good + 1 → now ≡ good + cond told 1 0
adds_one told good now is higher = subst (λ b. now ≡ good + cond b 1 0) (sym is) higher

pub adds_none : (told : Bool) (good now : ℕ) → told ≡ false → now ≡ good → now ≡ good + cond told 1 0
adds_none told good now is same = subst (λ b. now ≡ good + cond b 1 0) (sym is) (omega arith)
