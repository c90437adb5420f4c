-- A tick of a bench: what rests goes on to rest, what waits goes on to wait, and the tenth tick ends an open transfer.
use Rattle.std.proofs.Common.{◌≡◌, ℕ, ◌+◌, ◌-◌, ◌≤◌, Bool, true, false, ◌&&◌, cond, eqb, ltb, leb, ◌⊎◌, List, length, Some, None, Option, Result, option_map, sym, refl, ap, ap₂, ◌∙◌, subst, subst₂, inl, inr, arith}
use Rattle.std.proofs.lemmas.Bool.{cond_both, ltb-true, ltb-false, leb-true, leb-false, eq-eqb, ne_eqb}
use Rattle.wire.specs.declared.frame.Frame.{Frame}
use Rattle.wire.specs.declared.abort_code.AbortCode.TheVariants.{TimedOut}
use Rattle.sdo.specs.Requests.{Request}
use Rattle.sdo.specs.Answers.{Answer}
use Rattle.sdo.specs.Frames.{answer_frame}
use Rattle.line.specs.Meanings.{Meaning}
use Rattle.dictionary.specs.Entries.{Entry}
use Rattle.master.specs.declared.phase.Awaiting.{Awaiting}
use Rattle.master.specs.declared.phase.Aborted.{Aborted}
use Rattle.master.specs.declared.phase.Phase.TheVariants.{Open}
use Rattle.master.specs.declared.phase.SubBlock.{SubBlock}
use Rattle.master.specs.Sendings.{silence}
use Rattle.master.specs.Limits.{rest_ticks}
use Rattle.master.specs.States as master
use Rattle.master.specs.Steps.{parting, abandoned}
use Rattle.master.specs.Calls.{Ticking, counted, waited, rested, tick_in}
use Rattle.master.specs.Calls as order
use Rattle.master.specs.Laws.{is_open}
use Rattle.master.specs.Runs as calls
use Rattle.master.proofs.Outcomes.{by_phase, waits_on, waits_out}
use Rattle.node.specs.States as node
use Rattle.node.specs.States.{Activity, is_idle}
use Rattle.node.specs.Nodes as nodes
use Rattle.node.specs.Nodes.{timed_out}
use Rattle.master.specs.declared.direction.Direction.{Direction}
use Rattle.bench.specs.Model.States.{State}
use Rattle.bench.specs.declared.response.Ticked.{Ticked}
use Rattle.bench.specs.Model.Calls.{tick_answer, tick_step, tick_frames}
use Rattle.bench.specs.Model.Lines.{Losses, carried, replied, quieted_if}
use Rattle.bench.specs.Law.Runs.{Tick, Acts, event}
use Rattle.bench.specs.Law.Books.{Note}
use Rattle.bench.specs.Law.Watches.{Watch, counting, after_tick}
use Rattle.bench.specs.Law.Law.{Account}
use Rattle.bench.proofs.Law.Exchange.{Orderly, Reading, Ready, at_once, in_segments, by_block, one_more, closing, to_read, asking, SubBlockSent, Replies, refuses, sets_at_once, sets_segments, sets_block, starts, takes, gives_at_once, announces, gives, gives_last, starts_block, keeps, keeps_all, BlockAsks, Waited, Flight, asks, asks_block, answered, silent}
use Rattle.bench.proofs.Law.Outcomes.{SameOrder, Ended, written, read, failed, EndsBy}
use Rattle.bench.proofs.Law.Invariant.{note_of, OnlyAbort, Calm, Stage, rests, flies, over, Counted, Inv}
use Rattle.bench.proofs.Law.Parting.{flight_ahead, flight_waited}
use Rattle.bench.proofs.Law.Going.{Goes, goes, same_verdict, same_own_verdict, Passes, silently, lastly, counted_past, renoted, Stays, inv_on, replied_to_node, parted_line}

-- a master's tick by its phase
tick_shut : (M : master.State) → is_open M.phase ≡ false → order.tick M ≡ rested M
unfolding order.tick
tick_shut M = by_phase (λ u. is_open u.phase ≡ false → order.tick u ≡ rested u) (λ u e. refl) (λ w u e. cc) (λ k u e. refl) M

tick_open : (M : master.State) (u : Awaiting) → M.phase ≡ Open u → order.tick M ≡ waited M u
unfolding order.tick
tick_open M u e = ap (tick_in M) e

passes_tick : (M : master.State) → Passes M (order.tick M).next (order.tick M).sending.frames
unfolding order.tick parting
passes_tick M =
    by_phase (λ u. Passes u (order.tick u).next (order.tick u).sending.frames)
    (λ u. silently refl refl (λ e. refl))
    (λ w u. cond_both (ltb u.ticks 9) (waits_on w u) (waits_out w u) (λ k. Passes (master.in_phase (Open w) u) k.next k.sending.frames)
    (λ _. silently refl refl (λ e. e))
    (λ _. lastly refl refl refl))
    (λ k u. silently refl refl (λ e. refl))
    M

-- the three ways of a node's tick
by_tick : (P : nodes.Tick → Type 0) (N : node.State) → (is_idle N.activity ≡ true → P (record { next = N; reply = None })) → (is_idle N.activity ≡ false → 25 ≤ N.ticks + 1 → P (timed_out N)) → (is_idle N.activity ≡ false → N.ticks ≤ 23 → P (nodes.waited N)) → P (nodes.tick N)
unfolding nodes.tick
by_tick P N idle late early =
    cond_both (is_idle N.activity) (record { next = N; reply = None }) (cond (leb 25 (N.ticks + 1)) (timed_out N) (nodes.waited N)) P
    idle
    (λ busy. cond_both (leb 25 (N.ticks + 1)) (timed_out N) (nodes.waited N) P
    (λ e. late busy (leb-true 25 (N.ticks + 1) e))
    (λ e. early busy (omega (arith, leb-false 25 (N.ticks + 1) e))))

-- it keeps its number and its count
same_node : (N : node.State) → ((nodes.tick N).next.number ≡ N.number) × ((nodes.tick N).next.commits ≡ N.commits)
same_node N = by_tick (λ q. (q.next.number ≡ N.number) × (q.next.commits ≡ N.commits)) N (λ _. (refl, refl)) (λ _ _. (refl, refl)) (λ _ _. (refl, refl))

-- where it is idle, or its time does not run out, it says nothing and at most counts
record Silent (N : node.State) (q : nodes.Tick) : Type 0 where
  count : ℕ
  few : count ≤ N.ticks + 1
  is : q ≡ record { next = record N { ticks = count }; reply = None }

node_silent : (N : node.State) → (is_idle N.activity ≡ true) ⊎ (N.ticks ≤ 18) → Silent N (nodes.tick N)
node_silent N h =
    by_tick (Silent N) N
    (λ _. record { count = N.ticks; few = omega arith; is = refl })
    (λ busy late. elim h [ inl idle ↦ cc | inr early ↦ absurd (omega arith) ])
    (λ _ _. record { count = N.ticks + 1; few = omega arith; is = refl })

-- the node is idle, or will be before a rest is over
abbrev InTime : node.State → ℕ → Type 0
InTime N rest = (is_idle N.activity ≡ true) ⊎ ((rest_ticks ≤ N.ticks + rest) × (N.ticks ≤ 24))

in_time : (N : node.State) (rest : ℕ) → InTime N rest → InTime (nodes.tick N).next (rest - 1)
in_time N rest h =
    by_tick (λ q. InTime q.next (rest - 1)) N
    inl
    (λ _ _. inl refl)
    (λ busy early. elim h [ inl idle ↦ cc | inr long ↦ inr (omega (arith, long.0), omega arith) ])

-- a bench after a tick, by what comes of it at each end
abbrev ticked_as : Ticking → nodes.Tick → List Bool → Bool → State → State
ticked_as p q ls lost s = record s {
  line = replied (option_map (answer_frame s.node.number) q.reply) lost (carried p.sending ls s.line);
  master = p.next;
  node = q.next;
}

quieted_abort : (M : master.State) (quiet : Bool) (m : Meaning) → OnlyAbort M m.to_node → OnlyAbort M (quieted_if quiet m).to_node
quieted_abort M true m h = inl refl
quieted_abort M false m h = h

-- a bench that rests goes on to rest
calm_on : (ls : List Bool) (lost : Bool) (s : State) → Calm s → Calm (ticked_as (rested s.master) (nodes.tick s.node) ls lost s)
calm_on ls lost s calm =
    let q = nodes.tick s.node in
    record {
      waiting = subst (λ fs. OnlyAbort s.master fs) (sym (replied_to_node (option_map (answer_frame s.node.number) q.reply) lost _)) (quieted_abort s.master (eqb s.master.rest 1) s.line calm.waiting);
      idle_in_time = in_time s.node s.master.rest calm.idle_in_time;
    }

-- the order stays what it is
counted_same : (dir : Direction) (M : master.State) (n r : ℕ) → SameOrder dir M (counted n r M)
counted_same dir M n r = record { node = refl; begun = refl; multiplexor = refl; direction = refl; value = λ e. refl }

-- What is said of an exchange does not speak of the master's ticks.
module _ {M : master.State} (n r : ℕ) where
  orderly_on : Orderly M → Orderly (counted n r M)
  orderly_on h = record { some = h.some; bounded = h.bounded }

  reading_on : {d : List Entry} {rest : List ℕ} → Reading d M rest → Reading d (counted n r M) rest
  reading_on h = record { whole = h.whole; allowed = h.allowed; some = h.some; bounded = h.bounded; asked = h.asked }

  ready_on : {d : List Entry} {dir : Direction} {w : Awaiting} {t : Activity} {q : Request} → Ready d M dir w t q → Ready d (counted n r M) dir w t q
  ready_on (at_once some few) = at_once some few
  ready_on (in_segments o) = in_segments (orderly_on o)
  ready_on (by_block o) = by_block (orderly_on o)
  ready_on (one_more t j o inner) = one_more t j (orderly_on o) inner
  ready_on (closing w o whole) = closing w (orderly_on o) whole
  ready_on (to_read none first) = to_read none first
  ready_on (asking t rest h) = asking t rest (reading_on h)

  sub_block_on : {nb : ℕ} {x : SubBlock} → SubBlockSent M nb x → SubBlockSent (counted n r M) nb x
  sub_block_on h = record { orderly = orderly_on h.orderly; crc = h.crc; some = h.some; fitting = h.fitting; few = h.few; within = h.within; ends = h.ends; short = h.short }

  block_on : {nb : ℕ} {x : SubBlock} {t : Activity} {lost : Bool} {ns : List ℕ} → BlockAsks M nb x t lost ns → BlockAsks (counted n r M) nb x t lost ns
  block_on h = record { sent = sub_block_on h.sent; kept = h.kept; passed = h.passed; wanting = h.wanting; up = h.up; activity = h.activity; rising = h.rising; clear = h.clear }

  replies_on : {d : List Entry} {nb : ℕ} {dir : Direction} {w : Awaiting} {t : Activity} {ahead lost : Bool} {a : Answer} → Replies d M nb dir w t ahead lost a → Replies d (counted n r M) nb dir w t ahead lost a
  replies_on {d} (refuses dir w lost c why proper) = refuses dir w lost c (same_verdict d dir M (counted n r M) (counted_same dir M n r) ∙ why) proper
  replies_on (sets_at_once lost free) = sets_at_once lost free
  replies_on (sets_segments lost t k last free) = sets_segments lost t k last free
  replies_on (sets_block lost free) = sets_block lost free
  replies_on (starts lost o) = starts lost (orderly_on o)
  replies_on (takes lost t j o inner) = takes lost t j (orderly_on o) inner
  replies_on (gives_at_once lost free some few) = gives_at_once lost free some few
  replies_on (announces lost none first h) = announces lost none first (reading_on h)
  replies_on (gives lost t rest h more) = gives lost t rest (reading_on h) more
  replies_on (gives_last lost t rest h few) = gives_last lost t rest (reading_on h) few
  replies_on (starts_block lost o some few) = starts_block lost (orderly_on o) some few
  replies_on (keeps lost x a h most why inner) = keeps lost x a (sub_block_on h) most why inner
  replies_on (keeps_all lost x w h all whole) = keeps_all lost x w (sub_block_on h) all whole

-- a bench on which only both ends' ticks have gone on
abbrev later : ℕ → State → State
later k s = record s { master = counted (s.master.ticks + 1) s.master.rest s.master; node = record s.node { ticks = k } }

waited_on : (s : State) (k more : ℕ) → k ≤ s.node.ticks + 1 → Waited s more → Waited (later k s) more
waited_on s k more h (inl idle) = inl idle
waited_on s k more h (inr early) = inr (omega arith)

flight_on : {d : List Entry} {s : State} {w : Awaiting} {ahead : Bool} (k : ℕ) → k ≤ s.node.ticks + 1 → Flight d s w ahead → Flight d (later k s) w ahead
flight_on {s} k h (asks q ready to_node to_master wait) = asks q (ready_on _ _ ready) to_node to_master (waited_on s k 9 h wait)
flight_on {s} k h (asks_block x n ns is dir block to_node to_master wait) = asks_block x n ns is dir (block_on _ _ block) to_node to_master (waited_on s k 9 h wait)
flight_on {s} k h (answered ahead a replies to_node to_master wait) = answered ahead a (replies_on _ _ replies) to_node to_master (waited_on s k 0 h wait)
flight_on {s} k h (silent ahead to_node to_master lost may wait) = silent ahead to_node to_master lost may (waited_on s k 9 h wait)

-- the ending of a transfer speaks of the master's order and value
ended_on : {d : List Entry} {M : master.State} {dir : Direction} {ahead : Bool} {e : Result (Unit {0}) Aborted} (n r : ℕ) → Ended d M dir ahead e → Ended d (counted n r M) dir ahead e
ended_on n r (written free) = written free
ended_on n r (read free there whole) = read free there whole
ended_on n r (failed dir ahead f may) = failed dir ahead f may

-- what a tick leaves of the stage of a transfer, and when it ends one
record Ticks (d : List Entry) (s : State) (w : Watch) (note : Option Note) (ahead : Bool) (p : Ticking) (t : State) : Type 0 where
  stage : Stage d t (counting p.sending.frames (after_tick p.ended w)) note ahead
  time : p.ended ≡ (w.is_open && eqb (w.ticks + 1) 10)
  order : SameOrder s.master.direction s.master p.next

-- it ends none where none is open
shut_time : (w : Watch) → w.is_open ≡ false → false ≡ (w.is_open && eqb (w.ticks + 1) 10)
shut_time w shut = sym (ap (λ b. b && eqb (w.ticks + 1) 10) shut)

module _ (ls : List Bool) (lost : Bool) (d : List Entry) (s : State) (w : Watch) where
  -- by what comes of the tick at each end
  abbrev TicksTo : Option Note → Bool → Ticking → nodes.Tick → Type 0
  TicksTo note ahead p q = Ticks d s w note ahead p (ticked_as p q ls lost s)

  abbrev own_note : Option Note
  own_note = Some (note_of s.master.direction s.master)

  stage_ticked : {note : Option Note} {ahead : Bool} → Stage d s w note ahead → TicksTo note ahead (order.tick s.master) (nodes.tick s.node)
  stage_ticked (rests idle calm shut) =
      subst (λ p. TicksTo None false p (nodes.tick s.node)) (sym (tick_shut s.master (ap is_open idle)))
      (record { stage = rests idle (calm_on ls lost s calm) shut; time = shut_time w shut; order = counted_same s.master.direction s.master s.master.ticks (s.master.rest - 1) })
  stage_ticked (flies u ahead phase few busy same_ticks before none flight) =
      let wait = flight_waited flight in
      let says = node_silent s.node (elim wait [ inl idle ↦ inl idle | inr early ↦ inr (omega arith) ]) in
      let q : nodes.Tick = record { next = record s.node { ticks = says.count }; reply = None } in
      let waits : Ticking = record { next = counted (s.master.ticks + 1) s.master.rest s.master; ended = false; sending = silence } in
      let ends : Ticking = record { next = abandoned u TimedOut s.master; ended = true; sending = parting TimedOut s.master } in
      let due : (w.is_open && eqb (w.ticks + 1) 10) ≡ eqb (s.master.ticks + 1) 10 = ap₂ (λ b n. b && eqb (n + 1) 10) busy same_ticks in
      subst₂ (TicksTo own_note ahead) (sym (tick_open s.master u phase)) (sym says.is)
      (cond_both (ltb s.master.ticks 9) waits ends (λ p. TicksTo own_note ahead p q)
      (λ e.
      let early = ltb-true s.master.ticks 9 e in
      let same = counted_same s.master.direction s.master (s.master.ticks + 1) s.master.rest in
      record {
        stage = renoted s.master same (flies u ahead phase (omega arith) busy (ap (λ n. n + 1) same_ticks) before none (flight_on says.count says.few flight));
        time = sym (due ∙ ne_eqb (s.master.ticks + 1) 10 (λ ten. omega arith));
        order = same;
      })
      (λ e.
      let ninth = ltb-false s.master.ticks 9 e in
      let same : SameOrder s.master.direction s.master ends.next = record { node = refl; begun = refl; multiplexor = refl; direction = refl; value = λ _. refl } in
      let calm : Calm (ticked_as ends q ls lost s) = record {
        waiting = parted_line TimedOut s.master ls s.line;
        idle_in_time = elim wait [ inl idle ↦ inl idle | inr early ↦ inr (omega arith, omega (arith, says.few)) ];
      } in
      record {
        stage = renoted s.master same (over _ ahead refl calm refl before (failed s.master.direction ahead _ (flight_ahead flight)) (λ sure. absurd cc));
        time = sym (due ∙ eq-eqb (s.master.ticks + 1) 10 (omega arith));
        order = same;
      }))
  stage_ticked (over e ahead phase calm shut before ended judged) =
      let same = counted_same s.master.direction s.master s.master.ticks (s.master.rest - 1) in
      subst (λ p. TicksTo own_note ahead p (nodes.tick s.node)) (sym (tick_shut s.master (ap is_open phase)))
      (record {
        stage = renoted s.master same (over e ahead phase (calm_on ls lost s calm) shut before (ended_on _ _ ended) (λ sure. subst (EndsBy e) (sym (same_own_verdict d s.master _ same)) (judged sure)));
        time = shut_time w shut;
        order = same;
      })

tick_frames_kept : (r : Bool) (w : Watch) → (after_tick r w).frames ≡ w.frames
tick_frames_kept true w = refl
tick_frames_kept false w = refl

tick_kept : (x : Losses) (a : Account) (s : State) → Inv a s → Goes a (event (Tick (tick_answer s)) (tick_frames s) x s) (tick_step x.of_master x.of_node s)
unfolding tick_step
tick_kept x a s i =
    let t = tick_step x.of_master x.of_node s in
    let ticks = stage_ticked x.of_master x.of_node a.book.dictionary s a.watch i.stage in
    let node_now = same_node s.node in
    let same : Stays s t = record { dictionary = refl; number = node_now.0; commits = node_now.1; order = ticks.order } in
    let frames = counted_past a.watch.frames s.master.direction s.master calls.Tick refl (passes_tick s.master) i.base.frames in
    goes a (event (Tick (tick_answer s)) (tick_frames s) x s) t false tt tt tt ticks.time
    (inv_on a (counting (tick_frames s) (after_tick (tick_answer s).ended a.watch)) s t i same ticks.stage
    (subst (λ n. Counted (n + length (tick_frames s)) s.master.direction (order.tick s.master).next) (sym (tick_frames_kept (tick_answer s).ended a.watch)) frames))

pub tick_goes : (a : Account) (x : Losses) (fs : List Frame) (r : Ticked) (s t : State) → Inv a s → Acts (Tick r) fs x s t → Goes a (event (Tick r) fs x s) t
tick_goes a x fs r s t i c = rw (c.0, c.1, c.2) (tick_kept x a s i)
