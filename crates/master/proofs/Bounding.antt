-- The repeats of a write are bounded: every frame is paid for.
use Rattle.std.proofs.Common.{◌≡◌, ℕ, ◌+◌, ◌≤◌, false, cond, ltb, leb, List, [], length, Ok, Err, Option, sym, ap, subst, arith, length-append}
use Rattle.std.proofs.lemmas.Bool.{cond_both, leb-true, and_parts}
use Rattle.wire.specs.declared.frame.Frame.{Frame}
use Rattle.wire.specs.declared.multiplexor.Multiplexor.{Multiplexor}
use Rattle.sdo.specs.Requests.{Request}
use Rattle.sdo.specs.Answers.{Answer}
use Rattle.master.specs.declared.phase.Phase.{Phase}
use Rattle.master.specs.declared.phase.Phase.TheVariants.{Open}
use Rattle.master.specs.declared.phase.Awaiting.{Awaiting}
use Rattle.master.specs.declared.phase.Awaiting.TheVariants as awaiting
use Rattle.master.specs.declared.method.Method.{Method}
use Rattle.master.specs.declared.method.Method.TheVariants as method
use Rattle.master.specs.declared.refusal.BeginRefusal.TheVariants.{ValueLength, NotExpedited}
use Rattle.master.specs.Values.{is_length}
use Rattle.master.specs.States.{State, in_phase, clear}
use Rattle.master.specs.Steps.{Step, found, abort_heard, parting}
use Rattle.master.specs.Methods.{takes}
use Rattle.master.specs.Calls.{Order, Write, free, start, write_start, write_awaited, opened, begin_if, begin, tick, give_up}
use Rattle.master.specs.Runs.{Move, Begin, Hear, Tick, GiveUp, Clear, after, sent_in, started_frames, accepted, begins, Run, none, more}
use Rattle.master.specs.Laws.{RepeatsAreBounded}
use Rattle.master.proofs.Outcomes.{by_phase, Writes, room, Outcome, goes_on, ended, was_told, succeeded, HeardAs, stays, answers, hear_outcome, accepted_as, refused_as, waits_on, waits_out}

abbrev WritesIn : Phase → Type 0
WritesIn (Open w) = Writes w
WritesIn p = Unit {0}

abbrev room_in : List ℕ → Phase → ℕ
room_in v (Open w) = room v w
room_in v p = 0

abbrev left : State → ℕ
left s = room_in s.value s.phase

-- a call in which a write pays for what it sends
record Pays (s next : State) (fs : List Frame) : Type 0 where
  writes : WritesIn next.phase
  pays : length fs + left next ≤ left s

-- there is always room for an abort
room_for_abort : (v : List ℕ) (w : Awaiting) → 1 ≤ room v w
room_for_abort v (awaiting.BlockDownload x) = omega arith
room_for_abort v w = omega arith

pays_nothing : (s : State) → WritesIn s.phase → Pays s s []
pays_nothing s h = record { writes = h; pays = omega arith }

pays_answer : {s : State} {w : Awaiting} {o : Option Answer} {p : Step} → Outcome s w o p → s.phase ≡ Open w → Writes w → Pays s p.next p.sending.frames
unfolding found abort_heard parting
pays_answer {s} {w} (goes_on u h v fs some paid) own wr =
    let bill = paid wr in
    let full : left s ≡ room s.value w = ap (room_in s.value) own in
    let kept-value : room v u ≡ room s.value u = ap (λ z. room z u) bill.same-value in
    record { writes = bill.writes; pays = omega (arith, bill.pays) }
pays_answer {s} {w} (ended c) own wr =
    let full : left s ≡ room s.value w = ap (room_in s.value) own in
    record { writes = tt; pays = omega (arith, room_for_abort s.value w) }
pays_answer (was_told c) own wr = record { writes = tt; pays = omega arith }
pays_answer (succeeded a v is fin) own wr = record { writes = tt; pays = omega arith }

pays_heard : {s : State} {f : Option Frame} {p : Step} → HeardAs s f p → WritesIn s.phase → Pays s p.next p.sending.frames
pays_heard {s} (stays h no-over no-sent) wr = pays_nothing s wr
pays_heard (answers w g own is from out) wr = pays_answer out own (subst WritesIn own wr)

pays_begin : (s : State) (m : Multiplexor) (o : Order) → accepted (begin s m o).answer ≡ false → WritesIn s.phase → Pays s (begin s m o).next (started_frames (begin s m o).answer)
unfolding begin
pays_begin s m o no_start wr =
    let same = refused_as (free s) (start m o) s m o no_start in
    subst (λ u. Pays s u (started_frames (begin_if (free s) (start m o) s m o).answer)) (sym same.0)
    (subst (λ fs. Pays s s fs) (sym same.1) (pays_nothing s wr))

pays_tick : (s : State) → WritesIn s.phase → Pays s (tick s).next (tick s).sending.frames
unfolding tick parting
pays_tick s =
    by_phase (λ u. WritesIn u.phase → Pays u (tick u).next (tick u).sending.frames)
    (λ u wr. record { writes = tt; pays = omega arith })
    (λ w u wr. cond_both (ltb u.ticks 9) (waits_on w u) (waits_out w u) (λ k. Pays (in_phase (Open w) u) k.next k.sending.frames)
    (λ _. record { writes = wr; pays = omega arith })
    (λ _. record { writes = tt; pays = omega (arith, room_for_abort u.value w) }))
    (λ e u wr. record { writes = tt; pays = omega arith })
    s

pays_give_up : (s : State) → WritesIn s.phase → Pays s (give_up s).next (give_up s).sending.frames
unfolding parting
pays_give_up s =
    by_phase (λ u. WritesIn u.phase → Pays u (give_up u).next (give_up u).sending.frames)
    (λ u wr. record { writes = tt; pays = omega arith })
    (λ w u wr. record { writes = tt; pays = omega (arith, room_for_abort u.value w) })
    (λ e u wr. record { writes = tt; pays = omega arith })
    s

pays_clear : (s : State) → WritesIn s.phase → Pays s (clear s) []
pays_clear s =
    by_phase (λ u. WritesIn u.phase → Pays u (clear u) [])
    (λ u wr. record { writes = tt; pays = omega arith })
    (λ w u wr. pays_nothing (in_phase (Open w) u) wr)
    (λ e u wr. record { writes = tt; pays = omega arith })
    s

pays_call : (s : State) (c : Move) → begins s c ≡ false → WritesIn s.phase → Pays s (after s c) (sent_in s c)
pays_call s (Begin m o) no_start wr = pays_begin s m o no_start wr
pays_call s (Hear f) no_start wr = pays_heard (hear_outcome s f) wr
pays_call s Tick no_start wr = pays_tick s wr
pays_call s GiveUp no_start wr = pays_give_up s wr
pays_call s Clear no_start wr = pays_clear s wr

pays_run : {s : State} {fs : List Frame} {n : ℕ} {t : State} → Run s fs n t → WritesIn s.phase → Pays s t fs
pays_run {s} none wr = pays_nothing s wr
pays_run (more fs n t c r no_start) wr =
    let before = pays_run r wr in
    let step = pays_call t c no_start before.writes in
    record { writes = step.writes; pays = omega (arith, before.pays, step.pays, length-append fs (sent_in t c)) }

-- what a write can send behind its start
write_room : (how : Method) (v : List ℕ) → length v ≤ 1024 → (room v (write_awaited how) ≤ 1292) × Writes (write_awaited how)
write_room method.Expedited v h = (omega arith, tt)
write_room how v h = (omega arith, tt)

fitting-length : (m : Multiplexor) (how : Method) (v : List ℕ) (y : Request) → start m (Write how v) ≡ Ok y → length v ≤ 1024
fitting-length m how v y =
    cond_both (is_length (length v)) (cond (takes how (length v)) (Ok (write_start m how v)) (Err NotExpedited)) (Err ValueLength) (λ q. q ≡ Ok y → length v ≤ 1024)
    (λ e _. leb-true (length v) 1024 (and_parts (leb 1 (length v)) (leb (length v) 1024) e).1)
    (λ _ e. cc)

run_from : (s t u : State) (m : Multiplexor) (how : Method) (v : List ℕ) (fs : List Frame) (n : ℕ) → u ≡ opened s m (Write how v) → length v ≤ 1024 → Run u fs n t → length fs ≤ 1292
run_from s t u m how v fs n is h run =
    let fit = write_room how v h in
    let all : Pays u t fs = pays_run run (subst (λ k. WritesIn k.phase) (sym is) fit.1) in
    let whole : left u ≡ room v (write_awaited how) = ap left is in
    omega (arith, all.pays, fit.0)

pub repeats_are_bounded : RepeatsAreBounded
unfolding begin
repeats_are_bounded s t m how v x fs n said run =
    let known = accepted_as (free s) (start m (Write how v)) s m (Write how v) x said in
    let one : length x.sending.frames ≡ 1 = ap (λ k. length k.sending.frames) known.1.1.0 in
    let rest = run_from s t (begin s m (Write how v)).next m how v fs n known.1.0 (fitting-length m how v known.0 known.1.1.1) run in
    omega (arith, one, rest, length-append x.sending.frames fs)
