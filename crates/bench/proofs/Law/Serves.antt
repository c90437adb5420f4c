-- A serve keeps the law.
use Rattle.std.proofs.Common.{◌≡◌, ℕ, zero, suc, ◌+◌, ◌-◌, ◌<◌, ◌≤◌, Bool, true, false, List, [], ◌∷◌, length, map, Some, None, inl, inr, refl, sym, ap, ◌∙◌, subst, arith}
use Rattle.std.proofs.lemmas.Bool.{eq-eqb}
use Rattle.std.specs.Option.{option_map}
use Rattle.wire.specs.declared.frame.Frame.{Frame}
use Rattle.wire.specs.declared.multiplexor.Multiplexor.{Multiplexor}
use Rattle.wire.specs.declared.abort_code.AbortCode.{AbortCode}
use Rattle.wire.specs.declared.node_number.NodeNumber.{NodeNumber}
use Rattle.sdo.specs.Fields.{abort_bytes}
use Rattle.sdo.specs.Requests as request
use Rattle.sdo.specs.Answers.{Answer}
use Rattle.sdo.specs.Frames.{request_frame, answer_frame}
use Rattle.line.specs.Meanings.{Meaning}
use Rattle.dictionary.specs.Entries.{Entry}
use Rattle.master.specs.declared.phase.Awaiting.{Awaiting}
use Rattle.master.specs.declared.phase.Awaiting.TheVariants as awaiting
use Rattle.master.specs.declared.phase.SubBlock.{SubBlock}
use Rattle.master.specs.SubBlocks.{block_segment}
use Rattle.master.specs.States as master
use Rattle.node.specs.declared.served.Served as declared
use Rattle.node.specs.States as node
use Rattle.node.specs.States.{Activity, Idle}
use Rattle.node.specs.Steps.{Step, step, interpreted}
use Rattle.node.specs.Nodes.{count_modulus, dictionary_by, commits_by, stepped}
use Rattle.master.specs.declared.direction.Direction.{Direction}
use Rattle.master.specs.declared.direction.Direction.TheVariants as way
use Rattle.bench.specs.Model.States.{State}
use Rattle.bench.specs.Model.Lines.{Losses, replied}
use Rattle.bench.specs.Model.Calls.{serve_step}
use Rattle.bench.specs.Law.Runs.{Serve, Acts, event}
use Rattle.bench.specs.Law.Books.{Book, set_if}
use Rattle.bench.specs.Law.Law.{Account}
use Rattle.bench.proofs.Law.Exchange.{numbers, setting_if, Replies, Flight, asks, asks_block, answered, silent, BlockAsks}
use Rattle.bench.proofs.Law.Outcomes.{BlockServed, says_nothing, ends_sub_block}
use Rattle.bench.proofs.Law.Invariant.{Base, Inv, Calm, Stage, note_of, one_if_noted}
use Rattle.bench.proofs.Law.Setting.{MaySet, sets_last}
use Rattle.bench.proofs.Law.Staging.{with_node, with_node-base, At, calmly, aloft, Aloft, staged}
use Rattle.bench.proofs.Law.Blocks.{serve_block}
use Rattle.bench.proofs.Law.Serving.{serve_ready}
use Rattle.bench.proofs.Law.Going.{Goes, still, counting_none}

-- a bench whose node has taken a frame, behind which some others wait
abbrev served_by : State → List Frame → Step → Bool → State
served_by s fs p lost = with_node (replied (option_map (answer_frame s.node.number) p.reply) lost (record s.line { to_node = fs })) (dictionary_by p.set s.dictionary) (stepped p s.node) s

serve_some : (s : State) (f : Frame) (fs : List Frame) (lost : Bool) → s.line.to_node ≡ f ∷ fs → serve_step lost s ≡ served_by s fs (step s.dictionary s.node (Some f)) lost
unfolding serve_step
serve_some s f fs lost e = rw e refl

serve_none : (s : State) (lost : Bool) → s.line.to_node ≡ [] → serve_step lost s ≡ s
unfolding serve_step step
serve_none s lost e = rw e refl

-- an abort ends whatever the node was in
record Ends (p : Step) : Type 0 where
  next : p.next ≡ Idle
  reply : p.reply ≡ None
  set : p.set ≡ None

abort_ends : (d : List Entry) (n : ℕ) (m : Multiplexor) (c : AbortCode) (t : Activity) → Ends (interpreted d n t (abort_bytes m c))
abort_ends d n m c Idle = record { next = refl; reply = refl; set = refl }
abort_ends d n m c (node.Download w u v) = record { next = refl; reply = refl; set = refl }
abort_ends d n m c (node.Upload k u v) = record { next = refl; reply = refl; set = refl }
abort_ends d n m c (node.BlockDownload r v) = record { next = refl; reply = refl; set = refl }
abort_ends d n m c (node.BlockEnd b v) = record { next = refl; reply = refl; set = refl }

abort_served : (d : List Entry) (N : node.State) (n : NodeNumber) (m : Multiplexor) (c : AbortCode) → N.number ≡ n → Ends (step d N (Some (request_frame n (request.Abort m c))))
unfolding step
abort_served d N n m c same = rw (same, eq-eqb (0x600 + n.number) (0x600 + n.number) refl) (abort_ends d N.block_size.number m c N.activity)

-- what the node sets is what the book has then
set_in_book : (k : Bool) (b : Book) (dir : Direction) (M : master.State) → b.note ≡ Some (note_of dir M) → (k ≡ true → dir ≡ way.Download) → dictionary_by (setting_if k M) b.dictionary ≡ (set_if k b).dictionary
set_in_book false b dir M noted is = refl
set_in_book true b dir M noted is = rw (noted, is refl) refl

counted_in_book : (k : Bool) (b : Book) (n : ℕ) (dir : Direction) (M : master.State) → b.note ≡ Some (note_of dir M) → (k ≡ true → dir ≡ way.Download) → n ≡ b.number → b.number + 1 < count_modulus → commits_by (setting_if k M) n ≡ (set_if k b).number
counted_in_book false b n dir M noted is e h = e
counted_in_book true b n dir M noted is e h = rw (noted, is refl) (omega (arith, e))

-- the node has taken an abort while nothing is open
calm_served : (a : Account) (s : State) (m : Multiplexor) (c : AbortCode) (lost : Bool) → Inv a s → s.line.to_node ≡ request_frame s.master.node (request.Abort m c) ∷ []
    → ((l : Meaning) (D : List Entry) (N : node.State) → Calm (with_node l D N s) → (k : Inv a s) × Stage a.book.dictionary (with_node l D N s) a.watch a.book.note k.ahead) → Inv a (serve_step lost s)
calm_served a s m c lost inv waits again =
    let p = step s.dictionary s.node (Some (request_frame s.master.node (request.Abort m c))) in
    let e = abort_served s.dictionary s.node s.master.node m c inv.base.same in
    let N = record s.node { activity = Idle; ticks = 0 } in
    let l = record s.line { to_node = [] } in
    let is : serve_step lost s ≡ with_node l s.dictionary N s = serve_some s _ [] lost waits ∙ rw (e.next, e.reply, e.set) refl in
    let k = again l s.dictionary N (record { waiting = inl refl; idle_in_time = inl refl }) in
    subst (λ t. Inv a t) (sym is) (record { ahead = k.0.ahead; base = with_node-base a s k.0.ahead l N refl refl k.0.base; stage = k.1 })

-- a bench after an answer: the node is in a transfer, and its answer is sent or lost
abbrev replying : State → Activity → Bool → Answer → Bool → State
replying s t k r lost = with_node (replied (Some (answer_frame s.node.number r)) lost (record s.line { to_node = [] })) (dictionary_by (setting_if k s.master) s.dictionary) (record s.node { activity = t; ticks = 0; commits = commits_by (setting_if k s.master) s.node.commits }) s

flight_replied : (d : List Entry) (s : State) (u : Awaiting) (t : Activity) (k : Bool) (r : Answer) (lost : Bool) → s.line.to_master ≡ [] → Replies d s.master s.node.block_size.number s.master.direction u t k s.line.lost r → Flight d (replying s t k r lost) u k
flight_replied d s u t k r false empty replies = answered k r replies refl (rw empty refl) (inr (omega arith))
flight_replied d s u t k r true empty replies =
    silent k refl empty refl (λ e. let x = sets_last replies e in (x.last, x.way)) (inr (omega arith))

-- the node has answered a request
reply_keeps : (a : Account) (s : State) (u : Awaiting) (p : Step) (k : Bool) (r : Answer) (lost : Bool) → Base a s false → Aloft a.book.dictionary s a.watch a.book.note false u → s.line.to_master ≡ []
    → p.reply ≡ Some r → p.set ≡ setting_if k s.master → Replies a.book.dictionary s.master s.node.block_size.number s.master.direction u p.next k s.line.lost r → Inv a (served_by s [] p lost)
reply_keeps a s u p k r lost b up empty replied set replies =
    let sets : k ≡ true → MaySet a.book.dictionary s.master s.master.direction u = sets_last replies in
    let t = replying s p.next k r lost in
    let room : a.book.number + 1 < count_modulus = omega (arith, b.begun, subst (λ n. a.book.number + one_if_noted n ≤ s.master.begun) up.noted b.number) in
    let is : served_by s [] p lost ≡ t = rw (replied, set) refl in
    subst (λ x. Inv a x) (sym is) (record {
      ahead = k;
      base = record {
        lawful = b.lawful;
        indexed = b.indexed;
        same = b.same;
        allowed = λ e. ((sets e).way, (sets e).undisputed);
        dictionary = ap (λ d. dictionary_by (setting_if k s.master) d) b.dictionary ∙ set_in_book k a.book s.master.direction s.master up.noted (λ e. (sets e).way);
        count = counted_in_book k a.book s.node.commits s.master.direction s.master up.noted (λ e. (sets e).way) b.count room;
        number = b.number;
        begun = b.begun;
        frames = b.frames;
      };
      stage = up.again t.line t.dictionary t.node k (flight_replied a.book.dictionary s u p.next k r lost empty replies);
    })

length_numbers : (low k : ℕ) → length (numbers low k) ≡ k
length_numbers low zero = refl
length_numbers low (suc k) = ap suc (length_numbers (low + 1) k)

-- some of a sub-block is still to be kept, so where nothing waits a frame was lost
none_left : (M : master.State) (nb : ℕ) (x : SubBlock) (t : Activity) (lost : Bool) → BlockAsks M nb x t lost [] → lost ≡ true
none_left M nb x t true left = refl
none_left M nb x t false left =
    let size : 0 ≡ length (numbers left.kept (x.count - left.kept)) = ap length (left.clear refl) in
    absurd (omega (arith, size, length_numbers left.kept (x.count - left.kept), left.wanting))

-- the node has taken a segment of a sub-block and says nothing
flight_silent : (d : List Entry) (s : State) (x : SubBlock) (t : Activity) (ns : List ℕ) → s.master.direction ≡ way.Download → s.line.to_master ≡ [] → BlockAsks s.master s.node.block_size.number x t s.line.lost ns
    → Flight d (with_node (record s.line { to_node = map (block_segment s.master.node s.master.value x.acknowledged) ns }) s.dictionary (record s.node { activity = t; ticks = 0 }) s) (awaiting.BlockDownload x) false
flight_silent d s x t [] dir empty left = silent false refl empty (none_left s.master s.node.block_size.number x t s.line.lost left) (λ e. cc) (inr (omega arith))
flight_silent d s x t (n ∷ ns) dir empty left = asks_block x n ns refl dir left refl empty (inr (omega arith))

silence_keeps : (a : Account) (s : State) (x : SubBlock) (p : Step) (ns : List ℕ) (lost : Bool) → Base a s false → Aloft a.book.dictionary s a.watch a.book.note false (awaiting.BlockDownload x) → s.master.direction ≡ way.Download → s.line.to_master ≡ []
    → p.reply ≡ None → p.set ≡ None → BlockAsks s.master s.node.block_size.number x p.next s.line.lost ns → Inv a (served_by s (map (block_segment s.master.node s.master.value x.acknowledged) ns) p lost)
silence_keeps a s x p ns lost b up dir empty no_reply unset left =
    let t = with_node (record s.line { to_node = map (block_segment s.master.node s.master.value x.acknowledged) ns }) s.dictionary (record s.node { activity = p.next; ticks = 0 }) s in
    let is : served_by s (map (block_segment s.master.node s.master.value x.acknowledged) ns) p lost ≡ t = rw (no_reply, unset) refl in
    subst (λ y. Inv a y) (sym is) (record {
      ahead = false;
      base = with_node-base a s false t.line t.node refl refl b;
      stage = up.again t.line t.dictionary t.node false (flight_silent a.book.dictionary s x p.next ns dir empty left);
    })

block_keeps : (a : Account) (s : State) (x : SubBlock) (p : Step) (ns : List ℕ) (lost : Bool) → Base a s false → Aloft a.book.dictionary s a.watch a.book.note false (awaiting.BlockDownload x) → s.master.direction ≡ way.Download → s.line.to_master ≡ []
    → BlockServed a.book.dictionary s.master s.node.block_size.number x s.line.lost ns p → Inv a (served_by s (map (block_segment s.master.node s.master.value x.acknowledged) ns) p lost)
block_keeps a s x p ns lost b up dir empty (says_nothing no_reply unset left) = silence_keeps a s x p ns lost b up dir empty no_reply unset left
block_keeps a s x p ns lost b up dir empty (ends_sub_block r none said unset replies) =
    let own = subst (λ w. Replies a.book.dictionary s.master s.node.block_size.number w (awaiting.BlockDownload x) p.next false s.line.lost r) (sym dir) replies in
    subst (λ k. Inv a (served_by s (map (block_segment s.master.node s.master.value x.acknowledged) k) p lost)) (sym none) (reply_keeps a s (awaiting.BlockDownload x) p false r lost b up empty said unset own)

serve_flight : (a : Account) (s : State) (u : Awaiting) (ahead lost : Bool) → Inv a s → Base a s ahead → Aloft a.book.dictionary s a.watch a.book.note ahead u → Flight a.book.dictionary s u ahead → Inv a (serve_step lost s)
serve_flight a s u ahead lost inv b up (answered k r replies waits comes waited) = subst (λ t. Inv a t) (sym (serve_none s lost waits)) inv
serve_flight a s u ahead lost inv b up (silent k waits empty gone maybe waited) = subst (λ t. Inv a t) (sym (serve_none s lost waits)) inv
serve_flight a s u _ lost inv b up (asks q ready waits empty waited) =
    let f = request_frame s.master.node q in
    let r = serve_ready a.book.dictionary b.lawful s.master s.node s.master.direction u q s.line.lost b.indexed b.same ready in
    let is = serve_some s f [] lost waits ∙ ap (λ d. served_by s [] (step d s.node (Some f)) lost) b.dictionary in
    subst (λ t. Inv a t) (sym is) (reply_keeps a s u (step a.book.dictionary s.node (Some f)) r.ahead r.answer lost b up empty r.replied r.set r.replies)
serve_flight a s u _ lost inv b up (asks_block x n ns own dir left waits empty waited) =
    let f = block_segment s.master.node s.master.value x.acknowledged n in
    let rest = map (block_segment s.master.node s.master.value x.acknowledged) ns in
    let r = serve_block a.book.dictionary s.master s.node x n ns s.line.lost b.same left in
    let is = serve_some s f rest lost waits ∙ ap (λ d. served_by s rest (step d s.node (Some f)) lost) b.dictionary in
    subst (λ t. Inv a t) (sym is) (block_keeps a s x (step a.book.dictionary s.node (Some f)) ns lost b (subst (λ w. Aloft a.book.dictionary s a.watch a.book.note false w) own up) dir empty r)

serve_keeps : (a : Account) (s : State) (lost : Bool) (inv : Inv a s) → At a.book.dictionary s a.watch a.book.note inv.ahead → Inv a (serve_step lost s)
serve_keeps a s lost inv (aloft u up) = serve_flight a s u inv.ahead lost inv inv.base up up.flight
serve_keeps a s lost inv (calmly shut calm again) =
    elim calm.waiting [
      | inl none ↦ subst (λ t. Inv a t) (sym (serve_none s lost none)) inv
      | inr w ↦ calm_served a s w.0 w.1 lost inv w.2 (λ l D N c. (inv, again l D N c))
    ]

pub serve_goes : (a : Account) (x : Losses) (fs : List Frame) (r : declared.Served) (s t : State) → Inv a s → Acts (Serve r) fs x s t → Goes a (event (Serve r) fs x s) t
serve_goes a x fs r s t inv c =
    let after : Inv a t = subst (λ u. Inv a u) (sym c.2) (serve_keeps a s x.of_node inv (staged a.book.dictionary s a.watch a.book.note inv.ahead inv.stage)) in
    subst (λ gs. Goes a (event (Serve r) gs x s) t) (sym c.1) (still a (event (Serve r) [] x s) t (ap (λ w. record { book = a.book; watch = w }) (counting_none a.watch)) tt tt tt tt after)
