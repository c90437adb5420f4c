-- A master rests for 30 ticks after its transfer has failed.
use Rattle.std.proofs.Common.{◌≡◌, ℕ, ◌+◌, ◌-◌, ◌<◌, false, cond, eqb, ltb, leb, List, [], length, Ok, Err, Option, Result, sym, refl, ap, ◌∙◌, subst, inl, inr, arith}
use Rattle.std.proofs.lemmas.Bool.{cond_both, ltb-true, ltb-false, eq-eqb, ne_eqb, cases_eq}
use Rattle.wire.specs.declared.frame.Frame.{Frame}
use Rattle.wire.specs.declared.multiplexor.Multiplexor.{Multiplexor}
use Rattle.sdo.specs.Requests.{Request}
use Rattle.sdo.specs.Answers.{Answer}
use Rattle.master.specs.declared.phase.Phase.TheVariants.{Idle, Open, Over}
use Rattle.master.specs.declared.phase.Awaiting.{Awaiting}
use Rattle.master.specs.declared.phase.Aborted.{Aborted}
use Rattle.master.specs.declared.refusal.BeginRefusal.{BeginRefusal}
use Rattle.master.specs.declared.refusal.BeginRefusal.TheVariants.{NotCleared, Resting, AllBegun, ValueLength, NotExpedited}
use Rattle.master.specs.Values.{is_length}
use Rattle.master.specs.States.{State, in_phase, clear}
use Rattle.master.specs.Steps.{Step, found, abort_heard}
use Rattle.master.specs.Methods.{takes}
use Rattle.master.specs.Calls.{Order, Read, Write, not_cleared, free, start, write_start, begin_if, begin, tick, give_up}
use Rattle.master.specs.Runs.{Move, Begin, Hear, Tick, GiveUp, Clear, after, ticks_in, accepted, begins, Run, none, more}
use Rattle.master.specs.Laws.{is_open, JustFailed, by_call, Rests, RestsForThirtyTicks}
use Rattle.master.proofs.Outcomes.{by_phase, Outcome, goes_on, ended, was_told, succeeded, HeardAs, stays, answers, hear_outcome, refused_as, waits_on, waits_out}

-- where an open transfer fails, the rest begins
rest-answered : {s : State} {w : Awaiting} {o : Option Answer} {p : Step} (f : Aborted) → Outcome s w o p → p.next.phase ≡ Over (Err f) → p.next.rest ≡ 30
unfolding found abort_heard
rest-answered f (goes_on u h v fs some paid) e = cc
rest-answered f (ended c) e = refl
rest-answered f (was_told c) e = refl
rest-answered f (succeeded a v is fin) e = cc

rest-heard : {s : State} {g : Option Frame} {p : Step} (w : Awaiting) (f : Aborted) → HeardAs s g p → s.phase ≡ Open w → p.next.phase ≡ Over (Err f) → p.next.rest ≡ 30
rest-heard w f (stays h no-over no-sent) own e = cc
rest-heard w f (answers u g op is from out) own e = rest-answered f out e

rest-begun : (r : Result (Unit {0}) BeginRefusal) (q : Result Request BeginRefusal) (s : State) (m : Multiplexor) (o : Order) (w : Awaiting) (f : Aborted) → s.phase ≡ Open w → (begin_if r q s m o).next.phase ≡ Over (Err f) → (begin_if r q s m o).next.rest ≡ 30
rest-begun (Err e) q s m o w f own is = cc
rest-begun (Ok u) (Err e) s m o w f own is = cc
rest-begun (Ok u) (Ok y) s m o w f own is = cc

rest_ticked : (s : State) (w : Awaiting) (f : Aborted) → s.phase ≡ Open w → (tick s).next.phase ≡ Over (Err f) → (tick s).next.rest ≡ 30
unfolding tick
rest_ticked s w f =
    by_phase (λ u. u.phase ≡ Open w → (tick u).next.phase ≡ Over (Err f) → (tick u).next.rest ≡ 30)
    (λ u own is. cc)
    (λ v u own. cond_both (ltb u.ticks 9) (waits_on v u) (waits_out v u) (λ k. k.next.phase ≡ Over (Err f) → k.next.rest ≡ 30)
    (λ e is. cc)
    (λ e is. refl))
    (λ e u own is. cc)
    s

rest-given_up : (s : State) (w : Awaiting) (f : Aborted) → s.phase ≡ Open w → (give_up s).next.phase ≡ Over (Err f) → (give_up s).next.rest ≡ 30
rest-given_up s w f =
    by_phase (λ u. u.phase ≡ Open w → (give_up u).next.phase ≡ Over (Err f) → (give_up u).next.rest ≡ 30)
    (λ u own is. cc) (λ v u own is. refl) (λ e u own is. cc) s

rest_cleared : (s : State) (w : Awaiting) (f : Aborted) → s.phase ≡ Open w → (clear s).phase ≡ Over (Err f) → (clear s).rest ≡ 30
rest_cleared s w f =
    by_phase (λ u. u.phase ≡ Open w → (clear u).phase ≡ Over (Err f) → (clear u).rest ≡ 30)
    (λ u own is. cc) (λ v u own is. cc) (λ e u own is. cc) s

rest_from : (s : State) (w : Awaiting) (c : Move) (f : Aborted) → s.phase ≡ Open w → (after s c).phase ≡ Over (Err f) → (after s c).rest ≡ 30
unfolding begin
rest_from s w (Begin m o) f own is = rest-begun (free s) (start m o) s m o w f own is
rest_from s w (Hear g) f own is = rest-heard w f (hear_outcome s g) own is
rest_from s w Tick f own is = rest_ticked s w f own is
rest_from s w GiveUp f own is = rest-given_up s w f own is
rest_from s w Clear f own is = rest_cleared s w f own is

-- a call on a master without an open transfer leaves none open, and a tick takes one from its rest
record Calms (next : State) (r : ℕ) : Type 0 where
  not_open : is_open next.phase ≡ false
  left : next.rest ≡ r

calm_heard : {s : State} {f : Option Frame} {p : Step} → HeardAs s f p → is_open s.phase ≡ false → Calms p.next (s.rest - 0)
calm_heard (stays h no-over no-sent) e = record { not_open = e; left = omega arith }
calm_heard {s} (answers w g own is from out) e = cc

calm_begin : (s : State) (m : Multiplexor) (o : Order) → accepted (begin s m o).answer ≡ false → is_open s.phase ≡ false → Calms (begin s m o).next (s.rest - 0)
unfolding begin
calm_begin s m o no_start e =
    let same-state = (refused_as (free s) (start m o) s m o no_start).0 in
    subst (λ u. Calms u (s.rest - 0)) (sym same-state) (record { not_open = e; left = omega arith })

calm_tick : (s : State) → is_open s.phase ≡ false → Calms (tick s).next (s.rest - 1)
unfolding tick
calm_tick s =
    by_phase (λ u. is_open u.phase ≡ false → Calms (tick u).next (u.rest - 1))
    (λ u e. record { not_open = refl; left = refl }) (λ w u e. cc) (λ k u e. record { not_open = refl; left = refl }) s

calm_give_up : (s : State) → is_open s.phase ≡ false → Calms (give_up s).next (s.rest - 0)
calm_give_up s =
    by_phase (λ u. is_open u.phase ≡ false → Calms (give_up u).next (u.rest - 0))
    (λ u e. record { not_open = refl; left = omega arith }) (λ w u e. cc) (λ k u e. record { not_open = refl; left = omega arith }) s

calm_clear : (s : State) → is_open s.phase ≡ false → Calms (clear s) (s.rest - 0)
calm_clear s =
    by_phase (λ u. is_open u.phase ≡ false → Calms (clear u) (u.rest - 0))
    (λ u e. record { not_open = refl; left = omega arith }) (λ w u e. cc) (λ k u e. record { not_open = refl; left = omega arith }) s

calm : (s : State) (c : Move) → begins s c ≡ false → is_open s.phase ≡ false → Calms (after s c) (s.rest - ticks_in c)
calm s (Begin m o) no_start e = calm_begin s m o no_start e
calm s (Hear f) no_start e = calm_heard (hear_outcome s f) e
calm s Tick no_start e = calm_tick s e
calm s GiveUp no_start e = calm_give_up s e
calm s Clear no_start e = calm_clear s e

rests_on : {s : State} {fs : List Frame} {n : ℕ} {t : State} → Run s fs n t → is_open s.phase ≡ false → s.rest ≡ 30 → Calms t (30 - n)
rests_on none e z = record { not_open = e; left = omega arith }
rests_on (more fs n t c r no_start) e z =
    let before = rests_on r e z in
    let now-calm = calm t c no_start before.not_open in
    record { not_open = now-calm.not_open; left = omega (arith, now-calm.left, before.left) }

-- what a rest that is left, or over, means for begin and for a tick
refuses_resting : (m : Multiplexor) (o : Order) (s : State) → 0 < s.rest → (begin s m o).answer ≡ cond (not_cleared s.phase) (Err NotCleared) (Err Resting)
unfolding begin
refuses_resting m o s =
    by_phase (λ u. 0 < u.rest → (begin u m o).answer ≡ cond (not_cleared u.phase) (Err NotCleared) (Err Resting))
    (λ u h. cond_both (ltb 0 u.rest) (Err Resting) (cond (leb 65535 u.begun) (Err AllBegun) (Ok tt)) (λ r. (begin_if r (start m o) (in_phase Idle u) m o).answer ≡ Err Resting)
    (λ _. refl)
    (λ e. absurd (omega (arith, ltb-false 0 u.rest e))))
    (λ w u h. refl)
    (λ e u h. refl)
    s

quiets_resting : (s : State) → is_open s.phase ≡ false → (tick s).sending ≡ record { quiet = eqb s.rest 1; frames = [] }
unfolding tick
quiets_resting s =
    by_phase (λ u. is_open u.phase ≡ false → (tick u).sending ≡ record { quiet = eqb u.rest 1; frames = [] })
    (λ u e. refl) (λ w u e. cc) (λ k u e. refl) s

no_rest_in : (q : Result Request BeginRefusal) → (q ≡ Err Resting → ⊥) → (s : State) (m : Multiplexor) (o : Order) → (begin_if (Ok tt) q s m o).answer ≡ Err Resting → ⊥
no_rest_in (Err e) h s m o is = h (cc)
no_rest_in (Ok y) h s m o is = cc

started_not_resting : (m : Multiplexor) (o : Order) → start m o ≡ Err Resting → ⊥
started_not_resting m Read e = cc
started_not_resting m (Write how v) e =
    cond_both (is_length (length v)) (cond (takes how (length v)) (Ok (write_start m how v)) (Err NotExpedited)) (Err ValueLength) (λ q. q ≡ Err Resting → ⊥)
    (λ _. cond_both (takes how (length v)) (Ok (write_start m how v)) (Err NotExpedited) (λ q. q ≡ Err Resting → ⊥)
    (λ _ k. cc)
    (λ _ k. cc))
    (λ _ k. cc)
    e

rested_enough : (m : Multiplexor) (o : Order) (s : State) → s.rest ≡ 0 → (begin s m o).answer ≡ Err Resting → ⊥
unfolding begin
rested_enough m o s =
    by_phase (λ u. u.rest ≡ 0 → (begin u m o).answer ≡ Err Resting → ⊥)
    (λ u z. cond_both (ltb 0 u.rest) (Err Resting) (cond (leb 65535 u.begun) (Err AllBegun) (Ok tt)) (λ r. (begin_if r (start m o) (in_phase Idle u) m o).answer ≡ Err Resting → ⊥)
    (λ e _. omega (arith, ltb-true 0 u.rest e))
    (λ _. cond_both (leb 65535 u.begun) (Err AllBegun) (Ok tt) (λ r. (begin_if r (start m o) (in_phase Idle u) m o).answer ≡ Err Resting → ⊥)
    (λ _ e. cc)
    (λ _. no_rest_in (start m o) (started_not_resting m o) (in_phase Idle u) m o)))
    (λ w u z e. cc)
    (λ k u z e. cc)
    s

the_thirtieth : (n : ℕ) → n < 30 → eqb (30 - n) 1 ≡ eqb (n + 1) 30
the_thirtieth n h =
    elim (cases_eq n 29) [
      | inl e ↦ eq-eqb (30 - n) 1 (omega arith) ∙ sym (eq-eqb (n + 1) 30 (omega arith))
      | inr e ↦ ne_eqb (30 - n) 1 (λ one. e (omega arith)) ∙ sym (ne_eqb (n + 1) 30 (λ thirty. e (omega arith)))
    ]

rests_so : (n : ℕ) (t : State) → Calms t (30 - n) → Rests n t
rests_so n t known =
    record {
      refuses = λ m o h. refuses_resting m o t (omega (arith, known.left));
      quiets = λ h. quiets_resting t known.not_open ∙ ap (λ b. record { quiet = b; frames = [] }) (ap (λ k. eqb k 1) known.left ∙ the_thirtieth n h);
      ends = λ m o h. rested_enough m o t (omega (arith, known.left));
    }

failed_run : {s : State} {fs : List Frame} {n : ℕ} {t : State} → JustFailed s → Run s fs n t → Rests n t
failed_run {n} {t} (by_call s w c f own is) run = rests_so n t (rests_on run (ap is_open is) (rest_from s w c f own is))

pub rests_for_thirty_ticks : RestsForThirtyTicks
rests_for_thirty_ticks s t fs n failed run = failed_run failed run
