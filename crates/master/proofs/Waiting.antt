-- The tenth tick after the master last sent ends an open transfer, and no other does.
use Rattle.std.proofs.Common.{◌≡◌, ℕ, ◌+◌, ◌≤◌, true, false, eqb, ltb, List, [], ◌∷◌, ◌++◌, length, Ok, Option, sym, refl, ap, ◌∙◌, subst, arith}
use Rattle.std.proofs.lemmas.Bool.{cond_both, ltb-true, ltb-false, eq-eqb, ne_eqb}
use Rattle.wire.specs.declared.frame.Frame.{Frame}
use Rattle.wire.specs.declared.multiplexor.Multiplexor.{Multiplexor}
use Rattle.sdo.specs.Answers.{Answer}
use Rattle.master.specs.declared.heard.Heard.TheVariants as heard
use Rattle.master.specs.declared.phase.Phase.TheVariants.{Open}
use Rattle.master.specs.declared.phase.Awaiting.{Awaiting}
use Rattle.master.specs.States.{State, in_phase, clear}
use Rattle.master.specs.Steps.{Step, found, abort_heard}
use Rattle.master.specs.Calls.{Order, Started, free, start, begin, tick, give_up}
use Rattle.master.specs.Runs.{Move, Begin, Hear, Tick, GiveUp, Clear, after, sent_in, ticks_in, accepted, begins, Run, none, more}
use Rattle.master.specs.Laws.{is_open, JustSent, by_begin, by_hear, TenthTickEnds, OnlyOpenTransfersEnd}
use Rattle.master.proofs.Outcomes.{by_phase, Outcome, goes_on, ended, was_told, succeeded, HeardAs, stays, answers, hear_outcome, accepted_as, refused_as, waits_on, waits_out}

fresh-after : {s : State} {w : Awaiting} {o : Option Answer} {p : Step} → Outcome s w o p → p.heard ≡ heard.Sent → p.next.ticks ≡ 0
unfolding found abort_heard
fresh-after (goes_on u h v fs some paid) e = refl
fresh-after (ended c) e = cc
fresh-after (was_told c) e = cc
fresh-after (succeeded a v is fin) e = cc

fresh-heard : {s : State} {f : Option Frame} {p : Step} → HeardAs s f p → p.heard ≡ heard.Sent → p.next.ticks ≡ 0
fresh-heard (stays h no-over no-sent) e = absurd (no-sent e)
fresh-heard (answers w g own is from out) e = fresh-after out e

fresh-begun : (s : State) (m : Multiplexor) (o : Order) (x : Started) → (begin s m o).answer ≡ Ok x → (begin s m o).next.ticks ≡ 0
unfolding begin
fresh-begun s m o x e = ap (λ t. t.ticks) (accepted_as (free s) (start m o) s m o x e).1.0

-- a master that has just sent has counted no tick
fresh-sent : {s : State} → JustSent s → s.ticks ≡ 0
fresh-sent (by_begin s m o x e) = fresh-begun s m o x e
fresh-sent (by_hear s f e) = fresh-heard (hear_outcome s f) e

-- a call that sends nothing and leaves the transfer open counts the ticks, up to nine
record Counts (t next : State) (k : ℕ) : Type 0 where
  was_open : is_open t.phase ≡ true
  counted : next.ticks ≡ t.ticks + k
  few : t.ticks ≤ 9 → next.ticks ≤ 9

counts_same : (t : State) → is_open t.phase ≡ true → Counts t t 0
counts_same t e = record { was_open = e; counted = omega arith; few = λ h. h }

counts_answer : {s : State} {w : Awaiting} {o : Option Answer} {p : Step} → Outcome s w o p → p.sending.frames ≡ [] → is_open p.next.phase ≡ true → ⊥
unfolding found abort_heard
counts_answer (goes_on u h v fs some paid) e op = omega (arith, ap length e)
counts_answer (ended c) e op = cc
counts_answer (was_told c) e op = cc
counts_answer (succeeded a v is fin) e op = cc

counts_heard : {s : State} {f : Option Frame} {p : Step} → HeardAs s f p → p.sending.frames ≡ [] → is_open p.next.phase ≡ true → Counts s p.next 0
counts_heard {s} (stays h no-over no-sent) e op = counts_same s op
counts_heard (answers w g own is from out) e op = absurd (counts_answer out e op)

counts_begin : (t : State) (m : Multiplexor) (o : Order) → accepted (begin t m o).answer ≡ false → is_open (begin t m o).next.phase ≡ true → Counts t (begin t m o).next 0
unfolding begin
counts_begin t m o no_start op =
    let e = (refused_as (free t) (start m o) t m o no_start).0 in
    subst (λ u. is_open u.phase ≡ true → Counts t u 0) (sym e) (counts_same t) op

counts_tick : (t : State) → is_open (tick t).next.phase ≡ true → Counts t (tick t).next 1
unfolding tick
counts_tick t =
    by_phase (λ u. is_open (tick u).next.phase ≡ true → Counts u (tick u).next 1)
    (λ u op. cc)
    (λ w u. cond_both (ltb u.ticks 9) (waits_on w u) (waits_out w u) (λ k. is_open k.next.phase ≡ true → Counts (in_phase (Open w) u) k.next 1)
    (λ e op. record { was_open = refl; counted = refl; few = λ h. omega (arith, ltb-true u.ticks 9 e) })
    (λ e op. cc))
    (λ e u op. cc)
    t

counts_give_up : (t : State) → is_open (give_up t).next.phase ≡ true → Counts t (give_up t).next 0
counts_give_up t =
    by_phase (λ u. is_open (give_up u).next.phase ≡ true → Counts u (give_up u).next 0)
    (λ u op. cc) (λ w u op. cc) (λ e u op. cc) t

counts_clear : (t : State) → is_open (clear t).phase ≡ true → Counts t (clear t) 0
counts_clear t =
    by_phase (λ u. is_open (clear u).phase ≡ true → Counts u (clear u) 0)
    (λ u op. cc) (λ w u op. counts_same (in_phase (Open w) u) op) (λ e u op. cc) t

counts : (t : State) (c : Move) → begins t c ≡ false → sent_in t c ≡ [] → is_open (after t c).phase ≡ true → Counts t (after t c) (ticks_in c)
counts t (Begin m o) no_start e op = counts_begin t m o no_start op
counts t (Hear f) no_start e op = counts_heard (hear_outcome t f) e op
counts t Tick no_start e op = counts_tick t op
counts t GiveUp no_start e op = counts_give_up t op
counts t Clear no_start e op = counts_clear t op

no_frames : (fs gs : List Frame) → fs ++ gs ≡ [] → (fs ≡ []) × (gs ≡ [])
no_frames [] gs e = (refl, e)
no_frames (f ∷ fs) gs e = cc

waited_so_long : {s : State} {fs : List Frame} {n : ℕ} {t : State} → Run s fs n t → s.ticks ≡ 0 → fs ≡ [] → is_open t.phase ≡ true → (t.ticks ≡ n) × (t.ticks ≤ 9)
waited_so_long none z e op = (z, omega arith)
waited_so_long (more fs n t c r no_start) z e op =
    let silent = no_frames fs (sent_in t c) e in
    let step = counts t c no_start silent.1 op in
    let before = waited_so_long r z silent.0 step.was_open in
    (omega (arith, step.counted, before.0), step.few before.1)

ends-at_ten : (t : State) → is_open t.phase ≡ true → t.ticks ≤ 9 → (tick t).ended ≡ eqb (t.ticks + 1) 10
unfolding tick
ends-at_ten t =
    by_phase (λ u. is_open u.phase ≡ true → u.ticks ≤ 9 → (tick u).ended ≡ eqb (u.ticks + 1) 10)
    (λ u op h. cc)
    (λ w u op h. cond_both (ltb u.ticks 9) (waits_on w u) (waits_out w u) (λ k. k.ended ≡ eqb (u.ticks + 1) 10)
    (λ e. sym (ne_eqb (u.ticks + 1) 10 (λ ten. omega (arith, ltb-true u.ticks 9 e))))
    (λ e. sym (eq-eqb (u.ticks + 1) 10 (omega (arith, ltb-false u.ticks 9 e)))))
    (λ e u op h. cc)
    t

pub tenth_tick_ends : TenthTickEnds
tenth_tick_ends s t fs n sent run silent op =
    let known = waited_so_long run (fresh-sent sent) silent op in
    ends-at_ten t op known.1 ∙ ap (λ k. eqb (k + 1) 10) known.0

pub only_open_transfers_end : OnlyOpenTransfersEnd
unfolding tick
only_open_transfers_end t =
    by_phase (λ u. is_open u.phase ≡ false → (tick u).ended ≡ false)
    (λ u e. refl) (λ w u e. cc) (λ k u e. refl) t
