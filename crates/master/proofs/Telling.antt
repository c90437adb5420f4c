-- From the begin of a transfer on, the notes of one who listens stand beside the master after every call, so that a failure tells them.
use Rattle.std.proofs.Common.{◌≡◌, ℕ, ◌≤◌, true, false, cond, eqb, ltb, leb, min, ◌&&◌, List, [], ◌∷◌, ◌++◌, length, map, Some, None, Ok, Err, Option, Result, sym, refl, ap, ◌∙◌, subst, arith, lit<}
use Rattle.std.specs.Option.{option_or, option_map}
use Rattle.std.proofs.lemmas.Bool.{cond_both, leb-true, lt-leb, and_parts}
use Rattle.wire.specs.declared.frame.Frame.{Frame}
use Rattle.wire.specs.declared.multiplexor.Multiplexor.{Multiplexor}
use Rattle.wire.specs.declared.node_number.NodeNumber.{NodeNumber}
use Rattle.wire.specs.declared.abort_code.AbortCode.{AbortCode}
use Rattle.wire.specs.declared.abort_code.AbortCode.TheVariants.{TimedOut, GeneralError}
use Rattle.wire.specs.Frames.{answer_identifier}
use Rattle.sdo.specs.Fits.{Proper}
use Rattle.sdo.specs.Frames.{request_frame}
use Rattle.sdo.specs.Requests.{Request, request_bytes, request_in}
use Rattle.sdo.specs.Requests as request
use Rattle.sdo.specs.Answers.{answer_in}
use Rattle.master.specs.declared.heard.Heard.TheVariants as heard
use Rattle.master.specs.declared.method.Method.{Method}
use Rattle.master.specs.declared.method.Method.TheVariants as method
use Rattle.master.specs.declared.phase.Phase.TheVariants.{Open, Over}
use Rattle.master.specs.declared.phase.Awaiting.{Awaiting}
use Rattle.master.specs.declared.phase.Aborted.{Aborted}
use Rattle.master.specs.declared.refusal.BeginRefusal.{BeginRefusal}
use Rattle.master.specs.declared.refusal.BeginRefusal.TheVariants.{ValueLength, NotExpedited}
use Rattle.master.specs.Values.{is_length}
use Rattle.master.specs.States.{State, in_phase, clear}
use Rattle.master.specs.Steps.{unmoved, read, hear_in, parting, abandoned, hear}
use Rattle.master.specs.Methods.{takes}
use Rattle.master.specs.Calls.{Order, Read, Write, Started, free, start, write_start, first_awaited, opened, begin_if, begin, tick, give_up}
use Rattle.master.specs.Runs.{Move, Begin, Hear, Tick, GiveUp, Clear, after, started_frames, accepted, begins}
use Rattle.master.specs.Listening.{Segments, Abort, Notes, blank, after_request, abort_taken, after_answer, Passed, Sent, Taken, noted, notes_on, passed_in, Traffic, none, more, by_master, failure_by, failure_in, FailuresTold}
use Rattle.master.proofs.Noting.{request_read, start_back}
use Rattle.master.proofs.Listening.{Abreast, Stands, ends, read_keeps}
use Rattle.master.proofs.Outcomes.{by_phase, accepted_as, refused_as, waits_on, waits_out}

-- Each call leaves the notes beside the master.

abbrev Goes : NodeNumber → State → Notes → State → List Passed → Type 0
Goes n s u t ps = Stands n s u s.phase → Stands n t (notes_on n u ps) t.phase

heard_open : (w : Awaiting) (t : State) (g : Frame) (u : Notes) → let s = in_phase (Open w) t in Abreast s.node s w u → Stands s.node (hear_in s (Open w) g).next (notes_on s.node (noted s.node u (Taken g)) (map Sent (hear_in s (Open w) g).sending.frames)) (hear_in s (Open w) g).next.phase
heard_open w t g u k =
    let s = in_phase (Open w) t in
    let o = answer_in g.bytes in
    elim (eqb g.identifier.number (answer_identifier s.node).number) as (λ e. let p = cond e (read s w o) (unmoved s heard.Dropped) in Stands s.node p.next (notes_on s.node (cond e (after_answer u o) u) (map Sent p.sending.frames)) p.next.phase) [
      | true ↦ read_keeps s u w o k
      | false ↦ k
    ]

-- of several aborts the first counts
first_counts : (u w : Notes) (a b : Option Abort) (f : Aborted) → w.highest ≡ u.highest → w.complete ≡ u.complete → option_map (failure_by u) a ≡ Some f → option_map (failure_by w) (option_or a b) ≡ Some f
first_counts u w None b f high whole told = cc
first_counts u w (Some a) b f high whole told =
    ap (λ c. Some (record { code = a.code; finder = a.sender; may_be_set = by_master a.sender && c; segment = min w.highest 65535 })) whole
    ∙ ap (λ k. Some (record { code = a.code; finder = a.sender; may_be_set = by_master a.sender && u.complete; segment = min k 65535 })) high
    ∙ told

let_go : (n : NodeNumber) (g : Frame) (u : Notes) (f : Aborted) → failure_in u ≡ Some f → failure_in (noted n u (Taken g)) ≡ Some f
let_go n g u f told =
    let o = answer_in g.bytes in
    elim (eqb g.identifier.number (answer_identifier n).number) as (λ e. failure_in (cond e (after_answer u o) u) ≡ Some f) [
      | true ↦ first_counts u (after_answer u o) u.abort (abort_taken o) f refl refl told
      | false ↦ told
    ]

goes_heard : (n : NodeNumber) (s : State) (u : Notes) (o : Option Frame) → Goes n s u (hear s o).next (passed_in s (Hear o))
unfolding hear
goes_heard n s u None = λ k. k
goes_heard n s u (Some g) =
    by_phase (λ t. Stands n t u t.phase → Stands n (hear_in t t.phase g).next (notes_on n (noted n u (Taken g)) (map Sent (hear_in t t.phase g).sending.frames)) (hear_in t t.phase g).next.phase)
    (λ t k. tt)
    (λ w t k.
    let v = in_phase (Open w) t in
    let p = hear_in v (Open w) g in
    let own : Abreast v.node v w u = record { node = refl; fair = k.fair; beside = k.beside } in
    subst (λ j. Stands j p.next (notes_on j (noted j u (Taken g)) (map Sent p.sending.frames)) p.next.phase) (sym k.node) (heard_open w t g u own))
    (λ e t. elim e as (λ r. let v = in_phase (Over r) t in Stands n v u (Over r) → Stands n v (noted n u (Taken g)) (Over r)) [
      | Ok x ↦ λ k. tt
      | Err f ↦ λ k. let_go n g u f k
    ])
    s

goes_begin : (n : NodeNumber) (s : State) (u : Notes) (m : Multiplexor) (o : Order) → accepted (begin s m o).answer ≡ false → Goes n s u (begin s m o).next (passed_in s (Begin m o))
unfolding begin
goes_begin n s u m o no_start k =
    let same = refused_as (free s) (start m o) s m o no_start in
    let r = begin_if (free s) (start m o) s m o in
    subst (λ t. Stands n t (notes_on n u (map Sent (started_frames r.answer))) t.phase) (sym same.0)
    (subst (λ fs. Stands n s (notes_on n u (map Sent fs)) s.phase) (sym same.1) k)

-- an abort that no answer brought about
goes_out : (n : NodeNumber) (w : Awaiting) (t : State) (u : Notes) (c : AbortCode) → let s = in_phase (Open w) t in Proper c → Abreast n s w u → Stands n (abandoned w c s) (notes_on n u (map Sent (parting c s).frames)) (abandoned w c s).phase
unfolding parting
goes_out n w t u c proper k =
    let s = in_phase (Open w) t in
    subst (λ j. Stands j (abandoned w c s) (notes_on j u (map Sent (parting c s).frames)) (abandoned w c s).phase) (sym k.node) (ends s w u c proper k.fair)

goes_ticked : (n : NodeNumber) (s : State) (u : Notes) → Goes n s u (tick s).next (passed_in s Tick)
unfolding tick
goes_ticked n s u =
    by_phase (λ t. Goes n t u (tick t).next (passed_in t Tick))
    (λ t k. tt)
    (λ w t k. cond_both (ltb t.ticks 9) (waits_on w t) (waits_out w t) (λ p. Stands n p.next (notes_on n u (map Sent p.sending.frames)) p.next.phase)
    (λ _. record { node = k.node; fair = record { complete = k.fair.complete; highest = k.fair.highest; abort = k.fair.abort }; beside = k.beside })
    (λ _. goes_out n w t u TimedOut (lit< tt) k))
    (λ e t. elim e as (λ r. Goes n (in_phase (Over r) t) u (tick (in_phase (Over r) t)).next (passed_in (in_phase (Over r) t) Tick)) [ Ok x ↦ λ k. tt | Err f ↦ λ k. k ])
    s

goes_given_up : (n : NodeNumber) (s : State) (u : Notes) → Goes n s u (give_up s).next (passed_in s GiveUp)
goes_given_up n s u =
    by_phase (λ t. Goes n t u (give_up t).next (passed_in t GiveUp))
    (λ t k. tt)
    (λ w t k. goes_out n w t u GeneralError (lit< tt) k)
    (λ e t. elim e as (λ r. Goes n (in_phase (Over r) t) u (give_up (in_phase (Over r) t)).next (passed_in (in_phase (Over r) t) GiveUp)) [ Ok x ↦ λ k. tt | Err f ↦ λ k. k ])
    s

goes_cleared : (n : NodeNumber) (s : State) (u : Notes) → Goes n s u (clear s) []
goes_cleared n s u =
    by_phase (λ t. Goes n t u (clear t) [])
    (λ t k. tt)
    (λ w t k. k)
    (λ e t k. tt)
    s

goes : (n : NodeNumber) (s : State) (u : Notes) (c : Move) → begins s c ≡ false → Goes n s u (after s c) (passed_in s c)
goes n s u (Begin m o) no_start = goes_begin n s u m o no_start
goes n s u (Hear o) no_start = goes_heard n s u o
goes n s u Tick no_start = goes_ticked n s u
goes n s u GiveUp no_start = goes_given_up n s u
goes n s u Clear no_start = goes_cleared n s u

in_two : (n : NodeNumber) (u : Notes) (ps qs : List Passed) → notes_on n u (ps ++ qs) ≡ notes_on n (notes_on n u ps) qs
in_two n u [] qs = refl
in_two n u (p ∷ ps) qs = in_two n (noted n u p) ps qs

goes_all : {s : State} {ps : List Passed} {t : State} (n : NodeNumber) (u : Notes) → Traffic s ps t → Goes n s u t ps
goes_all n u none k = k
goes_all n u (more ps t c r no_start) k =
    let before = goes_all n u r k in
    subst (λ w. Stands n (after t c) w (after t c).phase) (sym (in_two n u ps (passed_in t c))) (goes n t (notes_on n u ps) c no_start before)

-- The start stands beside the master that has just begun.

abbrev StartsAs : State → Multiplexor → Order → Notes → Type 0
StartsAs s m o u = Abreast s.node (opened s m o) (first_awaited o) u

start_noted : (s : State) (m : Multiplexor) (o : Order) (q : Request) → after_request blank (request_in (request_bytes q)) ≡ after_request blank (Some q) → StartsAs s m o (after_request blank (Some q)) → StartsAs s m o (noted s.node blank (Sent (request_frame s.node q)))
start_noted s m o q back k = subst (λ w. StartsAs s m o w) (sym (request_read s.node blank q refl back)) k

write_starts : (s : State) (m : Multiplexor) (how : Method) (v : List ℕ) → 1 ≤ length v → length v ≤ 1024 → takes how (length v) ≡ true → StartsAs s m (Write how v) (noted s.node blank (Sent (request_frame s.node (write_start m how v))))
write_starts s m method.Expedited v some long fits =
    start_noted s m (Write method.Expedited v) (write_start m method.Expedited v) (start_back blank m v some (leb-true (length v) 4 fits))
    (record { node = refl; fair = record { complete = refl; highest = refl; abort = refl }; beside = tt })
write_starts s m method.Segmented v some long fits =
    start_noted s m (Write method.Segmented v) (write_start m method.Segmented v) refl
    (record { node = refl; fair = record { complete = refl; highest = refl; abort = refl }; beside = record { asking = refl; number = refl; long = long } })
write_starts s m method.Block v some long fits =
    start_noted s m (Write method.Block v) (write_start m method.Block v) refl
    (record { node = refl; fair = record { complete = refl; highest = refl; abort = refl }; beside = record { filling = ap (Segments 0) (sym (lt-leb (length v) 0 some)); sent = omega arith; within = omega arith; some = some; long = long } })

starts : (s : State) (m : Multiplexor) (o : Order) (y : Request) → start m o ≡ Ok y → StartsAs s m o (noted s.node blank (Sent (request_frame s.node y)))
starts s m Read y = λ said.
    let same : request.InitiateUpload m ≡ y = cc in
    subst (λ q. StartsAs s m Read (noted s.node blank (Sent (request_frame s.node q)))) same
    (start_noted s m Read (request.InitiateUpload m) refl (record { node = refl; fair = record { complete = refl; highest = refl; abort = refl }; beside = refl }))
starts s m (Write how v) y =
    let fitted : Result Request BeginRefusal = cond (takes how (length v)) (Ok (write_start m how v)) (Err NotExpedited) in
    let P : Result Request BeginRefusal → Type 0 = λ r. r ≡ Ok y → StartsAs s m (Write how v) (noted s.node blank (Sent (request_frame s.node y))) in
    cond_both (is_length (length v)) fitted (Err ValueLength) P
    (λ e. cond_both (takes how (length v)) (Ok (write_start m how v)) (Err NotExpedited) P
    (λ fits said.
    let same : write_start m how v ≡ y = cc in
    let parts = and_parts (leb 1 (length v)) (leb (length v) 1024) e in
    subst (λ q. StartsAs s m (Write how v) (noted s.node blank (Sent (request_frame s.node q)))) same
    (write_starts s m how v (leb-true 1 (length v) parts.0) (leb-true (length v) 1024 parts.1) fits))
    (λ _ said. cc))
    (λ _ said. cc)

begun_stands : (s : State) (m : Multiplexor) (o : Order) (x : Started) → (begin s m o).answer ≡ Ok x → Stands s.node (begin s m o).next (notes_on s.node blank (map Sent x.sending.frames)) (begin s m o).next.phase
unfolding begin
begun_stands s m o x said =
    let known = accepted_as (free s) (start m o) s m o x said in
    subst (λ t. Stands s.node t (notes_on s.node blank (map Sent x.sending.frames)) t.phase) (sym known.1.0)
    (subst (λ z. StartsAs s m o (notes_on s.node blank (map Sent z.sending.frames))) (sym known.1.1.0) (starts s m o known.0 known.1.1.1))

pub failures_told : FailuresTold
failures_told s t m o x ps f said traffic over =
    let starting = notes_on s.node blank (map Sent x.sending.frames) in
    let stands : Stands s.node t (notes_on s.node starting ps) t.phase = goes_all s.node starting traffic (begun_stands s m o x said) in
    let told : failure_in (notes_on s.node starting ps) ≡ Some f = subst (Stands s.node t (notes_on s.node starting ps)) over stands in
    ap failure_in (in_two s.node blank (map Sent x.sending.frames) ps) ∙ told
