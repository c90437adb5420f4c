-- A settle with more room than any value needs is told as one with just enough.
use Rattle.std.proofs.Common.{◌≡◌, ℕ, Bool, cond, ltb, List, length, drop, Some, None, Ok, Err, Option, Result, option_map, refl, sym, ap, ◌∙◌, subst, inl, inr, min, replicate, arith}
use Rattle.std.proofs.lemmas.Bool.{cond_both, cases_lt, lt-ltb, le-ltb}
use Rattle.std.proofs.lemmas.List.{length-replicate}
use Rattle.std.proofs.Math.Seq.{take-append_seam}
use Rattle.wire.specs.declared.multiplexor.Multiplexor.{Multiplexor}
use Rattle.master.specs.declared.direction.Direction.{Direction}
use Rattle.master.specs.declared.direction.Direction.TheVariants.{Upload, Download}
use Rattle.master.specs.declared.phase.Aborted.{Aborted}
use Rattle.report.specs.declared.refusal.SettleRefusal.{SettleRefusal}
use Rattle.report.specs.declared.refusal.SettleRefusal.TheVariants.{NotOut, ShortBuffer}
use Rattle.report.specs.declared.report.Outcome.TheVariants.{Unwritten, Undecided}
use Rattle.report.specs.declared.report.Report.{Report}
use Rattle.report.specs.Reports.{outcome_of, report_of, failure_of}
use Rattle.bench.specs.declared.response.Response.{Response}
use Rattle.bench.specs.declared.response.Response.TheVariants as response
use Rattle.bench.specs.Model.States.{State}
use Rattle.bench.specs.Model.Calls.{settled, filled_by, filled, settled_by, settle_answer, settle_frames, settle_step}
use Rattle.bench.specs.Law.Runs.{Settle, Event, event, Acts, Happens}
use Rattle.bench.specs.Answers.{read_by, read_in, IsSettle}

-- what a read brings does not come from the buffer
module _ (v a b : List ℕ) where
  same_bytes : (w : Direction) (m : Multiplexor) (e : Result (Unit {0}) Aborted) → read_by (outcome_of w m e (length v)) (filled_by (outcome_of w m e (length v)) v a) ≡ read_by (outcome_of w m e (length v)) (filled_by (outcome_of w m e (length v)) v b)
  same_bytes Upload m (Ok x) = take-append_seam v (drop (length v) a) ∙ sym (take-append_seam v (drop (length v) b))
  same_bytes Download m (Ok x) = refl
  same_bytes Upload m (Err f) = refl
  same_bytes Download m (Err f) = cond_both f.may_be_set (Undecided (failure_of m f)) (Unwritten (failure_of m f)) (λ o. read_by o (filled_by o v a) ≡ read_by o (filled_by o v b)) (λ _. refl) (λ _. refl)

  same_read : (own : Bool) (w : Direction) (m : Multiplexor) (o : Option (Result (Unit {0}) Aborted)) {r : Result Report SettleRefusal} → r ≡ settled own b (option_map (λ e. report_of w m e (length v)) o) → read_in r (filled r v a) ≡ read_in r (filled r v b)
  same_read own w m None is = rw is refl
  same_read own w m (Some e) is =
      let Same : Result Report SettleRefusal → Type 0 = λ r. read_in r (filled r v a) ≡ read_in r (filled r v b) in
      let r = report_of w m e (length v) in
      rw is (cond_both own (cond (ltb (length b) 1024) (Err ShortBuffer) (Ok r)) (Err NotOut) Same
      (λ _. cond_both (ltb (length b) 1024) (Err ShortBuffer) (Ok r) Same (λ _. refl) (λ _. same_bytes w m e))
      (λ _. refl))

same_settled : (own : Bool) (a b : List ℕ) (o : Option Report) → ltb (length a) 1024 ≡ ltb (length b) 1024 → settled own a o ≡ settled own b o
same_settled own a b None same = refl
same_settled own a b (Some r) same = ap (λ short. cond own (cond short (Err ShortBuffer) (Ok r)) (Err NotOut)) same

pub roomier : (k : ℕ) (a b : List ℕ) (r : Response) (s t : State) → ltb (length a) 1024 ≡ ltb (length b) 1024 → (e : Event) × IsSettle k a r e.act × Happens e s t → (e : Event) × IsSettle k b r e.act × Happens e s t
unfolding settle_step
roomier k a b (response.Settled report read) s t same made =
    let e = made.0 in
    let is = made.1 in
    let called : Acts (Settle k a report is.0) e.sent e.losses s t = subst (λ c. Acts c e.sent e.losses s t) is.1 made.2.called in
    let answers : settle_answer k a s ≡ settle_answer k b s = same_settled _ a b _ same in
    let answer : report ≡ settle_answer k b s = called.0 ∙ answers in
    let after : is.0 ≡ filled report s.master.value a = called.1 ∙ ap (λ x. filled x s.master.value a) (sym called.0) in
    let bytes : read_in report (filled report s.master.value a) ≡ read_in report (filled report s.master.value b) = same_read s.master.value a b _ _ _ _ answer in (
      event (Settle k b report (filled report s.master.value b)) (settle_frames k b s) e.losses s,
      (filled report s.master.value b, refl, is.2 ∙ ap (read_in report) after ∙ bytes),
      record { lost = refl; called = (answer, ap (λ x. filled x s.master.value b) answer, refl, called.3 ∙ ap (λ x. settled_by x e.losses.of_master s) answers) },
    )
roomier k a b (response.Begun r) s t same made = absurd made.1
roomier k a b (response.Served r) s t same made = absurd made.1
roomier k a b (response.Heard r) s t same made = absurd made.1
roomier k a b (response.Ticked r) s t same made = absurd made.1

-- so many bytes, but at most 1,024, are fewer than 1,024 where so many are
short_min : (n : ℕ) → ltb (min n 1024) 1024 ≡ ltb n 1024
short_min n = elim (cases_lt n 1024) [ inl below ↦ lt-ltb (min n 1024) 1024 (omega arith) ∙ sym (lt-ltb n 1024 below) | inr above ↦ le-ltb (min n 1024) 1024 (omega arith) ∙ sym (le-ltb n 1024 above) ]

pub short_alike : (n : ℕ) → ltb (length {A = ℕ} (replicate (min n 1024) 0)) 1024 ≡ ltb (length {A = ℕ} (replicate n 0)) 1024
short_alike n = ap (λ k. ltb k 1024) (length-replicate {A = ℕ} (min n 1024) 0) ∙ short_min n ∙ sym (ap (λ k. ltb k 1024) (length-replicate {A = ℕ} n 0))
