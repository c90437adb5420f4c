-- Which ticket is out after each call.
use Rattle.std.proofs.Common.{◌≡◌, ℕ, Bool, ltb, List, Some, None, Ok, Err, Option, Result, refl, sym, ap, ◌∙◌}
use Rattle.std.proofs.lemmas.Bool.{cond_both}
use Rattle.wire.specs.declared.frame.Frame.{Frame}
use Rattle.wire.specs.declared.multiplexor.Multiplexor.{Multiplexor}
use Rattle.sdo.specs.Requests.{Request}
use Rattle.sdo.specs.Answers as sdo
use Rattle.master.specs.declared.phase.Awaiting.{Awaiting}
use Rattle.master.specs.declared.refusal.BeginRefusal.{BeginRefusal}
use Rattle.master.specs.States as master
use Rattle.master.specs.States.{number_unless_idle, uncleared, clear}
use Rattle.master.specs.Steps.{Step, found, abort_heard}
use Rattle.master.specs.Calls.{Order, free, start, begin_if, begin, tick, give_up}
use Rattle.master.proofs.Outcomes.{by_phase, Outcome, goes_on, ended, was_told, succeeded, HeardAs, stays, answers, hear_outcome, waits_on, waits_out}
use Rattle.report.specs.declared.report.Report.{Report}
use Rattle.bench.specs.Model.States.{State}
use Rattle.bench.specs.Model.Calls.{ticket_number, begun_as, begin_answer, begin_step, hear_step, serve_step, tick_step, settled_by, settle_answer, settle_step}
use Rattle.bench.specs.Tickets.{held_after}

-- a begin that is not refused puts its own ticket out, and one that is refused changes nothing
begun_held : (r : Result (Unit {0}) BeginRefusal) (q : Result Request BeginRefusal) (ls : List Bool) (s : State) (m : Multiplexor) (o : Order)
    → held_after (ticket_number (begin_if r q s.master m o).answer) (uncleared s.master) ≡ uncleared (begun_as (begin_if r q s.master m o).answer (begin_if r q s.master m o).next ls s).master
begun_held (Err e) q ls s m o = refl
begun_held (Ok x) (Err e) ls s m o = refl
begun_held (Ok x) (Ok q) ls s m o = refl

pub begin_holds : (m : Multiplexor) (o : Order) (r : Result ℕ BeginRefusal) (held now : Option ℕ) (s t : State) → held ≡ uncleared s.master → now ≡ held_after r held → r ≡ begin_answer m o s → (ls : List Bool) × (t ≡ begin_step m o ls s) → now ≡ uncleared t.master
unfolding begin begin_step
begin_holds m o r held now s t out is answer after =
    is
    ∙ ap (λ h. held_after r h) out
    ∙ ap (λ x. held_after x (uncleared s.master)) answer
    ∙ begun_held (free s.master) (start m o) after.0 s m o
    ∙ ap (λ u. uncleared u.master) (sym after.1)

pub serve_holds : (held : Option ℕ) (s t : State) → held ≡ uncleared s.master → (lost : Bool) × (t ≡ serve_step lost s) → held ≡ uncleared t.master
unfolding serve_step
serve_holds held s t out after = out ∙ ap (λ u. uncleared u.master) (sym after.1)

-- an answer ends the transfer or not, and its ticket stays out
held_answered : {s : master.State} {w : Awaiting} {o : Option sdo.Answer} {p : Step} → Outcome s w o p → Some s.begun ≡ uncleared p.next
unfolding found abort_heard
held_answered (goes_on u h v fs some paid) = refl
held_answered (ended c) = refl
held_answered (was_told c) = refl
held_answered (succeeded a v is fin) = refl

held_heard : {s : master.State} {f : Option Frame} {p : Step} → HeardAs s f p → uncleared s ≡ uncleared p.next
held_heard (stays h no-over no-sent) = refl
held_heard {s} (answers w g own is from out) = ap (λ p. number_unless_idle p s.begun) own ∙ held_answered out

pub hear_holds : (held : Option ℕ) (s t : State) → held ≡ uncleared s.master → (ls : List Bool) × (t ≡ hear_step ls s) → held ≡ uncleared t.master
unfolding hear_step
hear_holds held s t out after = out ∙ held_heard (hear_outcome s.master _) ∙ ap (λ u. uncleared u.master) (sym after.1)

held_ticked : (M : master.State) → uncleared M ≡ uncleared (tick M).next
unfolding tick
held_ticked M =
    by_phase (λ s. uncleared s ≡ uncleared (tick s).next)
    (λ s. refl)
    (λ w s. cond_both (ltb s.ticks 9) (waits_on w s) (waits_out w s) (λ k. Some s.begun ≡ uncleared k.next) (λ _. refl) (λ _. refl))
    (λ e s. refl)
    M

pub tick_holds : (held : Option ℕ) (s t : State) → held ≡ uncleared s.master → (ls : List Bool) × (lost : Bool) × (t ≡ tick_step ls lost s) → held ≡ uncleared t.master
unfolding tick_step
tick_holds held s t out after = out ∙ held_ticked s.master ∙ ap (λ u. uncleared u.master) (sym after.2)

-- a transfer that is settled has no ticket out
cleared : (M : master.State) → None ≡ uncleared (clear (give_up M).next)
cleared M =
    by_phase (λ s. None ≡ uncleared (clear (give_up s).next))
    (λ s. refl) (λ w s. refl) (λ e s. refl)
    M

pub settled_holds : (k : ℕ) (buffer : List ℕ) (r : Report) (s t : State) → Ok r ≡ settle_answer k buffer s → (ls : List Bool) × (t ≡ settle_step k buffer ls s) → None ≡ uncleared t.master
unfolding settle_step
settled_holds k buffer r s t answer after =
    cleared s.master
    ∙ ap (λ a. uncleared (settled_by a after.0 s).master) answer
    ∙ ap (λ u. uncleared u.master) (sym after.1)
