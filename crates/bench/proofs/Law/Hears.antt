-- A hear keeps the law.
use Rattle.std.proofs.Common.{◌≡◌, ℕ, zero, suc, ◌+◌, ◌-◌, ◌≤◌, Bool, true, false, List, [], ◌∷◌, ◌++◌, length, length-append, map, Some, ◌⊎◌, inl, inr, refl, sym, ap, ◌∙◌, subst, arith}
use Rattle.wire.specs.declared.frame.Frame.{Frame}
use Rattle.wire.specs.declared.node_number.NodeNumber.{NodeNumber}
use Rattle.sdo.specs.Requests.{Request}
use Rattle.sdo.specs.Requests as request
use Rattle.sdo.specs.Frames.{request_frame, answer_frame}
use Rattle.line.specs.declared.end.End.TheVariants as end
use Rattle.line.specs.Meanings.{Meaning, leading, following, sent}
use Rattle.dictionary.specs.Entries.{Entry}
use Rattle.dictionary.specs.Questions.{value_at}
use Rattle.master.specs.declared.heard.Heard.{Heard}
use Rattle.master.specs.declared.heard.Heard.TheVariants as heard
use Rattle.master.specs.declared.phase.Awaiting.{Awaiting}
use Rattle.master.specs.declared.phase.Awaiting.TheVariants as awaiting
use Rattle.master.specs.declared.phase.Phase.TheVariants.{Idle, Open, Over}
use Rattle.master.specs.declared.phase.SubBlock.{SubBlock}
use Rattle.master.specs.SubBlocks.{block_segment, sub_block_from, sub_block_of}
use Rattle.master.specs.Limits.{rest_ticks}
use Rattle.master.specs.States as master
use Rattle.master.specs.Steps.{Step, unmoved, hear_in, hear}
use Rattle.master.specs.Laws.{is_open}
use Rattle.master.specs.declared.phase.Phase.{Phase}
use Rattle.master.specs.Runs as calls
use Rattle.node.specs.States as node
use Rattle.node.specs.States.{is_idle}
use Rattle.master.specs.declared.direction.Direction.{Direction}
use Rattle.master.specs.declared.direction.Direction.TheVariants as way
use Rattle.bench.specs.Model.States.{State}
use Rattle.bench.specs.Model.Lines.{Losses, first_lost, sent_all, carried}
use Rattle.bench.specs.Model.Calls.{hear_step, hear_answer, hear_frames}
use Rattle.bench.specs.Law.Runs.{Hear, Acts, event}
use Rattle.bench.specs.Law.Watches.{Watch, after_hear}
use Rattle.bench.specs.Law.Law.{Account, accounted}
use Rattle.bench.proofs.Law.Exchange.{numbers, Ready, at_once, in_segments, by_block, one_more, closing, to_read, asking, Flight, asks, asks_block, answered, silent, BlockAsks, Waited}
use Rattle.bench.proofs.Law.Outcomes.{SameOrder, Sends, Ended, EndsBy, Leaves, done, abort_heard, found, HeardAs, asks_on, sends_block, over as ends}
use Rattle.bench.proofs.Law.Invariant.{Base, Inv, Calm, Stage, flies, over as is_over, Counted, few, of_read, of_write, note_of}
use Rattle.bench.proofs.Law.Losses.{Arrives, sent_alone, sub_block_arrives, none_arrives, still_asks}
use Rattle.bench.proofs.Law.Hearing.{hear_reply}
use Rattle.bench.proofs.Law.Staging.{with_node, with_node-base, At, calmly, aloft, Aloft, staged}
use Rattle.bench.proofs.Law.Going.{Goes, goes, counting_none, same_own_note, same_own_verdict}

-- a bench whose master has taken a frame, behind which some others wait
abbrev heard_by : State → List Frame → Step → List Bool → State
heard_by s fs p ls = record s { line = carried p.sending ls (record s.line { to_master = fs }); master = p.next }

hear_some : (s : State) (f : Frame) (fs : List Frame) (ls : List Bool) → s.line.to_master ≡ f ∷ fs → hear_step ls s ≡ heard_by s fs (hear s.master (Some f)) ls
unfolding hear_step
hear_some s f fs ls e = rw e refl

hear_none : (s : State) (ls : List Bool) → s.line.to_master ≡ [] → hear_step ls s ≡ s
unfolding hear_step hear
hear_none s ls e = rw e refl

-- a master that has no transfer open lets every frame go
dropped_in : (M : master.State) (f : Frame) (p : Phase) → is_open p ≡ false → hear_in M p f ≡ unmoved M heard.Dropped
dropped_in M f Idle shut = refl
dropped_in M f (Open w) shut = cc
dropped_in M f (Over e) shut = refl

unheard : (M : master.State) (f : Frame) → is_open M.phase ≡ false → hear M (Some f) ≡ unmoved M heard.Dropped
unfolding hear
unheard M f shut = dropped_in M f M.phase shut

-- a read asks for no more segments than its value has
read_high : (d : List Entry) (K : master.State) (dir : Direction) (w : Awaiting) (t : node.Activity) (q : Request) → Ready d K dir w t q → dir ≡ way.Upload → K.highest ≤ 147
read_high d K dir w t q (to_read empty low) e = omega (arith, low)
read_high d K dir w t q (asking b rest reading) e =
    let size : length K.value + length rest ≡ length (value_at d K.multiplexor) = sym (length-append K.value rest) ∙ ap length reading.whole in
    omega (arith, size, reading.bounded, reading.some, reading.asked)
read_high d K dir w t q (at_once some small) e = cc
read_high d K dir w t q (in_segments o) e = cc
read_high d K dir w t q (by_block o) e = cc
read_high d K dir w t q (one_more b j o more) e = cc
read_high d K dir w t q (closing x o is) e = cc

open_shut : (p : Phase) (u : Awaiting) → p ≡ Open u → is_open p ≡ false → ⊥
open_shut Idle u own shut = cc
open_shut (Open w) u own shut = cc
open_shut (Over e) u own shut = cc

-- the frames after a hear
counted_heard : (n : ℕ) (dir : Direction) (M : master.State) (f : Frame) (u : Awaiting) → M.phase ≡ Open u → Counted n dir M
    → (dir ≡ way.Upload → n ≤ M.highest + 1 → M.highest ≤ 147 → Counted (n + length (hear M (Some f)).sending.frames) dir (hear M (Some f)).next)
    → Counted (n + length (hear M (Some f)).sending.frames) dir (hear M (Some f)).next
counted_heard n dir M f u own (few shut low) reads = absurd (open_shut M.phase u own shut)
counted_heard n dir M f u own (of_read is low high) reads = reads is low high
counted_heard n dir M f u own (of_write K m how v x fs k said run is) reads =
    let more = (hear M (Some f)).sending.frames in
    let all : n + length more ≡ length (x.sending.frames ++ (fs ++ more)) = omega (arith, is, length-append x.sending.frames fs, length-append x.sending.frames (fs ++ more), length-append fs more) in
    of_write K m how v x (fs ++ more) (k + 0) said (calls.more fs k M (calls.Hear (Some f)) run refl) all

-- a request was sent on a line where nothing waits
asked_flight : (d : List Entry) (s : State) (w : Awaiting) (q : Request) (l : Meaning) (lost : Bool) → l.to_node ≡ [] → l.to_master ≡ [] → s.line ≡ sent end.Node (request_frame s.master.node q) lost l → Ready d s.master s.master.direction w s.node.activity q → Waited s 9 → Flight d s w false
asked_flight d s w q l true there back is ready waited = silent false (rw is there) (rw is back) (rw is refl) (λ e. cc) waited
asked_flight d s w q l false there back is ready waited = asks q ready (rw (is, there) refl) (rw is back) waited

sent_back : (f : Frame) (lost : Bool) (l : Meaning) → (sent end.Node f lost l).to_master ≡ l.to_master
sent_back f true l = refl
sent_back f false l = refl

-- frames sent to the node leave those that wait for the master
sent_all_back : (fs : List Frame) (ls : List Bool) (l : Meaning) → (sent_all end.Node fs ls l).to_master ≡ l.to_master
sent_all_back [] ls l = refl
sent_all_back (f ∷ fs) ls l = sent_all_back fs (following ls) (sent end.Node f (first_lost ls) l) ∙ sent_back f (first_lost ls) l

-- a sub-block was sent, of which those with some numbers arrived
module _ (d : List Entry) (s : State) (x : SubBlock) (dir : s.master.direction ≡ way.Download) (waited : Waited s 9) (empty : s.line.to_master ≡ []) where
  block_flight : (ns : List ℕ) → BlockAsks s.master s.node.block_size.number x s.node.activity s.line.lost ns → s.line.to_node ≡ map (block_segment s.master.node s.master.value x.acknowledged) ns → (ns ≡ [] → s.line.lost ≡ true) → Flight d s (awaiting.BlockDownload x) false
  block_flight [] left there gone = silent false there empty (gone refl) (λ e. cc) waited
  block_flight (n ∷ ns) left there gone = asks_block x n ns refl dir left there empty waited

  block_sent : (l : Meaning) (ls : List Bool) → l.to_node ≡ [] → s.line ≡ sent_all end.Node (sub_block_of s.master.node s.master.value x.acknowledged x.count) ls l → BlockAsks s.master s.node.block_size.number x s.node.activity false (numbers 0 x.count) → Flight d s (awaiting.BlockDownload x) false
  block_sent l ls there is left =
      let k = subst (λ p. Arrives s.master.node s.master.value x.acknowledged 0 x.count x.count [] l p) (sym is) (sub_block_arrives s.master.node s.master.value x.acknowledged x.count ls l there) in
      block_flight k.ns (still_asks left k) k.to_node (λ none. none_arrives k none left.sent.some)

-- what a master leaves that is done is calm
calm_left : (s : State) (M : master.State) (p : Step) (l : Meaning) (ls : List Bool) → s.master ≡ p.next → p.next.node ≡ M.node → (is_idle s.node.activity ≡ true) ⊎ (s.node.ticks ≤ 24) → l.to_node ≡ [] → s.line ≡ carried p.sending ls l → Leaves M p s.node.activity → Calm s
calm_left s M p l ls own same low there is (done idle sending rest) = record { waiting = inl (rw (is, sending) there); idle_in_time = inl (rw idle refl) }
calm_left s M p l ls own same low there is (abort_heard idle sending) = record { waiting = inl (rw (is, sending) refl); idle_in_time = inl (rw idle refl) }
calm_left s M p l ls own same low there is (found m c sending rest) =
    let f = request_frame M.node (request.Abort m c) in
    let owner : s.master.node ≡ M.node = ap (λ k. k.node) own ∙ same in
    let resting : s.master.rest ≡ rest_ticks = ap (λ k. k.rest) own ∙ rest in
    record {
      waiting = elim (sent_alone f ls l).0 [
        | inl none ↦ inl (rw (is, sending) none)
        | inr some ↦ inr (m, c, rw (is, sending, owner) some)
      ];
      idle_in_time = elim low [ inl idle ↦ inl idle | inr h ↦ inr (omega (arith, resting), h) ];
    }

-- a sub-block has a first segment
some_segments : (n : NodeNumber) (v : List ℕ) (b count : ℕ) → 1 ≤ count → sub_block_of n v b count ≡ block_segment n v b 1 ∷ sub_block_from n v b 2 (count - 1)
some_segments n v b zero h = absurd (omega arith)
some_segments n v b (suc count) h =
    let one_less : count ≡ suc count - 1 = omega arith in
    ap (λ k. block_segment n v b 1 ∷ sub_block_from n v b 2 k) one_less

ways_apart : (dir : Direction) → dir ≡ way.Upload → dir ≡ way.Download → ⊥
ways_apart way.Upload e f = cc
ways_apart way.Download e f = cc

-- a master that is done sends at most one frame
few_left : (M : master.State) (p : Step) (t : node.Activity) → Leaves M p t → length p.sending.frames ≤ 1
few_left M p t (done idle sending rest) = rw sending (omega arith)
few_left M p t (abort_heard idle sending) = rw sending (omega arith)
few_left M p t (found m c sending rest) = rw sending (omega arith)

frames_heard : (h : Heard) (lost : Bool) (fs : List Frame) (w : Watch) → (after_hear h lost fs w).frames ≡ w.frames + length fs
frames_heard heard.NothingWaited lost fs w = refl
frames_heard heard.Dropped lost fs w = refl
frames_heard heard.Over lost fs w = refl
frames_heard heard.Sent lost fs w = refl

-- a frame heard in an open transfer: the book stays, and all that is beside the stage
module _ (a : Account) (s : State) (k : Bool) (u : Awaiting) (f : Frame) (ls : List Bool) (b : Base a s k) (up : Aloft a.book.dictionary s a.watch a.book.note k u) where
  abbrev heard_now : Step
  heard_now = hear s.master (Some f)

  abbrev watch_now : Watch
  watch_now = after_hear heard_now.heard s.line.lost heard_now.sending.frames a.watch

  abbrev bench_now : State
  bench_now = heard_by s [] heard_now ls

  heard_inv : SameOrder s.master.direction s.master heard_now.next → Stage a.book.dictionary bench_now watch_now (Some (note_of heard_now.next.direction heard_now.next)) k
      → (s.master.direction ≡ way.Upload → a.watch.frames ≤ s.master.highest + 1 → s.master.highest ≤ 147 → Counted (a.watch.frames + length heard_now.sending.frames) s.master.direction heard_now.next)
      → Inv (record { book = a.book; watch = watch_now }) bench_now
  heard_inv same stage reads =
      let K = heard_now.next in
      record {
        ahead = k;
        base = record {
          lawful = b.lawful;
          indexed = rw same.multiplexor b.indexed;
          same = b.same ∙ sym same.node;
          allowed = λ e. (same.direction ∙ (b.allowed e).0, rw (same.multiplexor, same.value (b.allowed e).0) (b.allowed e).1);
          dictionary = b.dictionary;
          count = b.count;
          number = rw same.begun b.number;
          begun = rw same.begun b.begun;
          frames =
              subst (λ dir. Counted watch_now.frames dir K) (sym same.direction)
              (subst (λ n. Counted n s.master.direction K) (sym (frames_heard heard_now.heard s.line.lost heard_now.sending.frames a.watch)) (counted_heard a.watch.frames s.master.direction s.master f u up.phase b.frames reads));
        };
        stage = subst (λ n. Stage a.book.dictionary bench_now watch_now n k) (ap (λ n. Some n) (same_own_note s.master K same) ∙ sym up.noted) stage;
      }

  -- it goes on: something was sent
  heard_on : (w : Awaiting) (g : Frame) (gs : List Frame) → heard_now.heard ≡ heard.Sent → k ≡ false → Sends s.master.direction s.master heard_now.next w → heard_now.sending.frames ≡ g ∷ gs → Flight a.book.dictionary bench_now w false
      → (s.master.direction ≡ way.Upload → a.watch.frames ≤ s.master.highest + 1 → s.master.highest ≤ 147 → Counted (a.watch.frames + length heard_now.sending.frames) s.master.direction heard_now.next)
      → Inv (record { book = a.book; watch = watch_now }) bench_now
  heard_on w g gs is unset sends frames flight reads =
      heard_inv sends.same
      (flies w k sends.phase (rw sends.ticks (omega arith)) (rw is up.watched) (rw (is, frames) (sym sends.ticks)) (rw is up.before) (rw is up.not_over) (subst (λ j. Flight a.book.dictionary bench_now w j) (sym unset) flight))
      reads

  waits_nine : Waited s 0 → (heard_now.next.ticks ≡ 0) → Waited bench_now 9
  waits_nine waited zero_ticks = elim waited [ inl idle ↦ inl idle | inr low ↦ inr (omega (arith, low, zero_ticks, up.few)) ]

  heard_keeps : s.line.to_node ≡ [] → Waited s 0 → HeardAs a.book.dictionary s.master s.node.block_size.number s.master.direction s.node.activity k s.line.lost heard_now → Inv (record { book = a.book; watch = watch_now }) bench_now
  heard_keeps there waited (asks_on w q is unset sends sending ready) =
      heard_on w (request_frame heard_now.next.node q) [] is unset sends (ap (λ z. z.frames) sending)
      (asked_flight a.book.dictionary bench_now w q (record s.line { to_master = [] }) (first_lost ls) there refl (rw sending refl) (subst (λ to. Ready a.book.dictionary heard_now.next to w s.node.activity q) (sym sends.same.direction) ready) (waits_nine waited sends.ticks))
      (λ e low high.
      let more : heard_now.next.highest ≡ s.master.highest + 1 = sends.more e in
      rw sending (of_read e (omega (arith, more, low)) (read_high a.book.dictionary heard_now.next s.master.direction w s.node.activity q ready e)))
  heard_keeps there waited (sends_block x is unset dir sends sending left) =
      let K = heard_now.next in
      heard_on (awaiting.BlockDownload x) (block_segment K.node K.value x.acknowledged 1) (sub_block_from K.node K.value x.acknowledged 2 (x.count - 1)) is unset sends
      (ap (λ z. z.frames) sending ∙ some_segments K.node K.value x.acknowledged x.count left.sent.some)
      (block_sent a.book.dictionary bench_now x (sends.same.direction ∙ dir) (waits_nine waited sends.ticks) (rw sending (sent_all_back (sub_block_of heard_now.next.node heard_now.next.value x.acknowledged x.count) ls (record s.line { to_master = [] }))) (record s.line { to_master = [] }) ls there (rw sending refl) left)
      (λ e. absurd (ways_apart s.master.direction e dir))
  heard_keeps there waited (ends e is same phase ended judged leaves) =
      let K = heard_now.next in
      let low : (is_idle s.node.activity ≡ true) ⊎ (s.node.ticks ≤ 24) = elim waited [ inl idle ↦ inl idle | inr h ↦ inr (omega (arith, h, up.few)) ] in
      let calm = calm_left bench_now s.master heard_now (record s.line { to_master = [] }) ls refl same.node low there refl leaves in
      let known : watch_now.lost_before_over ≡ Some s.line.lost = rw (is, up.watched) refl in
      heard_inv same
      (is_over e k phase calm (rw is refl) (rw is up.before) (subst (λ to. Ended a.book.dictionary K to k e) (sym same.direction) ended) (λ clear. subst (EndsBy e) (sym (same_own_verdict a.book.dictionary s.master K same)) (judged (cc))))
      (λ dir low_frames high. few (rw phase refl) (omega (arith, low_frames, high, few_left s.master heard_now s.node.activity leaves)))

-- what hear tells of a frame, or of none
told_of : (s : State) (q : List Frame) → s.line.to_master ≡ q → (hear_answer s ≡ (hear s.master (leading q)).heard) × (hear_frames s ≡ (hear s.master (leading q)).sending.frames)
told_of s q e = (ap (λ p. (hear s.master (leading p)).heard) e, ap (λ p. (hear s.master (leading p)).sending.frames) e)

-- a frame that is dropped, or none that waits, changes neither the watch nor the master
unheard_watch : (h : Heard) (lost : Bool) (w : Watch) → (h ≡ heard.NothingWaited) ⊎ (h ≡ heard.Dropped) → after_hear h lost [] w ≡ w
unheard_watch heard.NothingWaited lost w e = counting_none w
unheard_watch heard.Dropped lost w e = counting_none w
unheard_watch heard.Over lost w e = elim e [ inl f ↦ cc | inr f ↦ cc ]
unheard_watch heard.Sent lost w e = elim e [ inl f ↦ cc | inr f ↦ cc ]

hears_nothing : (a : Account) (s : State) (r : Heard) (fs : List Frame) (ls : List Bool) → Inv a s → s.line.to_master ≡ [] → r ≡ hear_answer s → fs ≡ hear_frames s → Inv (record { book = a.book; watch = after_hear r s.line.lost fs a.watch }) (hear_step ls s)
unfolding hear
hears_nothing a s r fs ls inv none is frames =
    let x = told_of s [] none in
    let answer : r ≡ heard.NothingWaited = is ∙ x.0 in
    let nothing : fs ≡ [] = frames ∙ x.1 in
    rw (nothing, hear_none s ls none) (subst (λ w. Inv (record { book = a.book; watch = w }) s) (sym (unheard_watch r s.line.lost a.watch (inl answer))) inv)

-- whatever waits and whatever the stage
hear_flight : (a : Account) (s : State) (u : Awaiting) (k : Bool) (r : Heard) (fs : List Frame) (ls : List Bool) → Inv a s → Base a s k → Aloft a.book.dictionary s a.watch a.book.note k u → Flight a.book.dictionary s u k
    → r ≡ hear_answer s → fs ≡ hear_frames s → Inv (record { book = a.book; watch = after_hear r s.line.lost fs a.watch }) (hear_step ls s)
hear_flight a s u _ r fs ls inv b up (answered k x replies there comes waited) is frames =
    let f = answer_frame s.master.node x in
    let own : s.line.to_master ≡ f ∷ [] = comes ∙ ap (λ n. answer_frame n x ∷ []) b.same in
    let h = hear_reply a.book.dictionary b.lawful s.master s.node.block_size.number s.master.direction u s.node.activity k s.line.lost x b.indexed up.phase replies in
    let y = told_of s (f ∷ []) own in
    let answer : r ≡ (hear s.master (Some f)).heard = is ∙ y.0 in
    let sends : fs ≡ (hear s.master (Some f)).sending.frames = frames ∙ y.1 in
    rw (answer, sends, hear_some s f [] ls own) (heard_keeps a s k u f ls b up there waited h)
hear_flight a s u _ r fs ls inv b up (asks q ready there back waited) is frames = hears_nothing a s r fs ls inv back is frames
hear_flight a s u _ r fs ls inv b up (asks_block x n ns own dir left there back waited) is frames = hears_nothing a s r fs ls inv back is frames
hear_flight a s u _ r fs ls inv b up (silent k there back gone maybe waited) is frames = hears_nothing a s r fs ls inv back is frames

-- nothing is open: a frame that waits is dropped
hear_calm : (a : Account) (s : State) (q : List Frame) (r : Heard) (fs : List Frame) (ls : List Bool) (inv : Inv a s) → is_open s.master.phase ≡ false → Calm s
    → ((l : Meaning) (D : List Entry) (N : node.State) → Calm (with_node l D N s) → Stage a.book.dictionary (with_node l D N s) a.watch a.book.note inv.ahead)
    → s.line.to_master ≡ q → r ≡ hear_answer s → fs ≡ hear_frames s → Inv (record { book = a.book; watch = after_hear r s.line.lost fs a.watch }) (hear_step ls s)
hear_calm a s [] r fs ls inv shut calm again waits is frames = hears_nothing a s r fs ls inv waits is frames
hear_calm a s (f ∷ gs) r fs ls inv shut calm again waits is frames =
    let y = told_of s (f ∷ gs) waits in
    let quiet = unheard s.master f shut in
    let answer : r ≡ heard.Dropped = is ∙ y.0 ∙ ap (λ p. p.heard) quiet in
    let nothing : fs ≡ [] = frames ∙ y.1 ∙ ap (λ p. p.sending.frames) quiet in
    let l = record s.line { to_master = gs } in
    let state : hear_step ls s ≡ with_node l s.dictionary s.node s = hear_some s f gs ls waits ∙ ap (λ p. heard_by s gs p ls) quiet in
    let inv-after : Inv a (with_node l s.dictionary s.node s) = record {
      ahead = inv.ahead;
      base = with_node-base a s inv.ahead l s.node refl refl inv.base;
      stage = again l s.dictionary s.node (record { waiting = calm.waiting; idle_in_time = calm.idle_in_time });
    } in
    rw (nothing, state) (subst (λ w. Inv (record { book = a.book; watch = w }) (with_node l s.dictionary s.node s)) (sym (unheard_watch r s.line.lost a.watch (inr answer))) inv-after)

hear_at : (a : Account) (s : State) (r : Heard) (fs : List Frame) (ls : List Bool) (inv : Inv a s) → At a.book.dictionary s a.watch a.book.note inv.ahead → r ≡ hear_answer s → fs ≡ hear_frames s → Inv (record { book = a.book; watch = after_hear r s.line.lost fs a.watch }) (hear_step ls s)
hear_at a s r fs ls inv (calmly shut calm again) is frames = hear_calm a s s.line.to_master r fs ls inv shut calm again refl is frames
hear_at a s r fs ls inv (aloft u up) is frames = hear_flight a s u inv.ahead r fs ls inv inv.base up up.flight is frames

pub hear_goes : (a : Account) (x : Losses) (fs : List Frame) (r : Heard) (s t : State) → Inv a s → Acts (Hear r) fs x s t → Goes a (event (Hear r) fs x s) t
hear_goes a x fs r s t inv c =
    let e = event (Hear r) fs x s in
    let after = hear_at a s r fs x.of_master inv (staged a.book.dictionary s a.watch a.book.note inv.ahead inv.stage) c.0 c.1 in
    goes a e t false tt tt tt tt (subst (λ u. Inv (accounted (record { event = e; set = false }) a) u) (sym c.2) after)
