-- A begin keeps the law.
use Rattle.std.proofs.Common.{◌≡◌, ℕ, ◌+◌, ◌<◌, ◌≤◌, Bool, true, false, cond, ltb, leb, List, [], ◌∷◌, length, Some, Ok, Err, Option, Result, inl, inr, refl, sym, ap, subst, arith}
use Rattle.std.proofs.lemmas.Bool.{cond_both, ltb-false, leb-true, leb-false, and_parts}
use Rattle.wire.specs.declared.frame.Frame.{Frame}
use Rattle.wire.specs.declared.multiplexor.Multiplexor.{Multiplexor}
use Rattle.sdo.specs.Fits.{Indexed}
use Rattle.sdo.specs.Requests.{Request}
use Rattle.sdo.specs.Frames.{request_frame}
use Rattle.line.specs.declared.end.End.TheVariants as end
use Rattle.line.specs.Meanings.{quieted, sent}
use Rattle.dictionary.specs.Entries.{Entry}
use Rattle.master.specs.declared.method.Method.{Method}
use Rattle.master.specs.declared.method.Method.TheVariants as method
use Rattle.master.specs.declared.phase.Awaiting.{Awaiting}
use Rattle.master.specs.declared.phase.Phase.{Phase}
use Rattle.master.specs.declared.phase.Phase.TheVariants.{Idle, Open, Over}
use Rattle.master.specs.declared.refusal.BeginRefusal.{BeginRefusal}
use Rattle.master.specs.declared.refusal.BeginRefusal.TheVariants.{NotCleared, Resting, AllBegun, ValueLength, NotExpedited}
use Rattle.master.specs.Limits.{most_transfers}
use Rattle.master.specs.States as master
use Rattle.master.specs.Values.{is_length}
use Rattle.master.specs.Calls as order
use Rattle.master.specs.Methods.{takes}
use Rattle.master.specs.Calls.{Order, not_cleared, free, write_start, start, first_awaited, ordered, opened, starting, begin_if, begin, direction_of}
use Rattle.master.specs.Runs as calls
use Rattle.master.specs.Runs.{started_frames}
use Rattle.node.specs.States as node
use Rattle.node.specs.States.{Activity, is_idle}
use Rattle.master.specs.declared.direction.Direction.TheVariants as way
use Rattle.bench.specs.Model.States.{State}
use Rattle.bench.specs.Model.Lines.{Losses, first_lost}
use Rattle.bench.specs.Model.Calls.{ticket_number, begun_as, begin_step}
use Rattle.bench.specs.Law.Runs.{Begin, Acts, event}
use Rattle.bench.specs.Law.Books.{Note, value_ordered, set_if}
use Rattle.bench.specs.Law.Watches.{Watch}
use Rattle.bench.specs.Law.Law.{Witnessed, Account, accounted}
use Rattle.bench.proofs.Law.Exchange.{Ready, at_once, in_segments, by_block, to_read, Flight, asks, silent}
use Rattle.bench.proofs.Law.Invariant.{Inv, Calm, Stage, rests, flies, over, Counted, of_read, of_write, note_of}
use Rattle.bench.proofs.Law.Going.{Goes, still, counting_none}

-- what speaks against no transfer: the master is idle, rests no longer, and has numbers left
record Free (M : master.State) : Type 0 where
  idle : M.phase ≡ Idle
  rested : M.rest ≡ 0
  numbers : M.begun < most_transfers

cleared_is : (p : Phase) → not_cleared p ≡ false → p ≡ Idle
cleared_is Idle e = refl
cleared_is (Open w) e = cc
cleared_is (Over r) e = cc

free_is : (M : master.State) (u : Unit {0}) → free M ≡ Ok u → Free M
free_is M u =
    cond_both (not_cleared M.phase) (Err NotCleared) (cond (ltb 0 M.rest) (Err Resting) (cond (leb most_transfers M.begun) (Err AllBegun) (Ok tt))) (λ r. r ≡ Ok u → Free M)
    (λ _ e. cc)
    (λ idle. cond_both (ltb 0 M.rest) (Err Resting) (cond (leb most_transfers M.begun) (Err AllBegun) (Ok tt)) (λ r. r ≡ Ok u → Free M)
    (λ _ e. cc)
    (λ rested. cond_both (leb most_transfers M.begun) (Err AllBegun) (Ok tt) (λ r. r ≡ Ok u → Free M)
    (λ _ e. cc)
    (λ few e. record { idle = cleared_is M.phase idle; rested = omega (arith, ltb-false 0 M.rest rested); numbers = leb-false most_transfers M.begun few })))

-- a value that fits, and its start
record Fits (how : Method) (v : List ℕ) (x q : Request) : Type 0 where
  some : 1 ≤ length v
  bounded : length v ≤ 1024
  in_start : takes how (length v) ≡ true
  is : x ≡ q

allowed_is : (how : Method) (v : List ℕ) (x q : Request) → order.allowed_start how v x ≡ Ok q → Fits how v x q
allowed_is how v x q =
    cond_both (is_length (length v)) (cond (takes how (length v)) (Ok x) (Err NotExpedited)) (Err ValueLength) (λ r. r ≡ Ok q → Fits how v x q)
    (λ lengthy. cond_both (takes how (length v)) (Ok x) (Err NotExpedited) (λ r. r ≡ Ok q → Fits how v x q)
    (λ fits e. record {
      some = leb-true 1 (length v) (and_parts (leb 1 (length v)) (leb (length v) 1024) lengthy).0;
      bounded = leb-true (length v) 1024 (and_parts (leb 1 (length v)) (leb (length v) 1024) lengthy).1;
      in_start = fits;
      is = cc;
    })
    (λ _ e. cc))
    (λ _ e. cc)

-- the start is what an idle node has to take
start_ready : (d : List Entry) (M : master.State) (m : Multiplexor) (o : Order) (q : Request) → start m o ≡ Ok q → Ready d (opened M m o) (direction_of o) (first_awaited o) node.Idle q
start_ready d M m order.Read q e = subst (λ x. Ready d (opened M m order.Read) way.Upload (first_awaited order.Read) node.Idle x) (cc) (to_read refl refl)
start_ready d M m (order.Write method.Expedited v) q e =
    let f = allowed_is method.Expedited v (write_start m method.Expedited v) q e in
    subst (λ x. Ready d (opened M m (order.Write method.Expedited v)) way.Download (first_awaited (order.Write method.Expedited v)) node.Idle x) f.is (at_once f.some (leb-true (length v) 4 f.in_start))
start_ready d M m (order.Write method.Segmented v) q e =
    let f = allowed_is method.Segmented v (write_start m method.Segmented v) q e in
    subst (λ x. Ready d (opened M m (order.Write method.Segmented v)) way.Download (first_awaited (order.Write method.Segmented v)) node.Idle x) f.is (in_segments (record { some = f.some; bounded = f.bounded }))
start_ready d M m (order.Write method.Block v) q e =
    let f = allowed_is method.Block v (write_start m method.Block v) q e in
    subst (λ x. Ready d (opened M m (order.Write method.Block v)) way.Download (first_awaited (order.Write method.Block v)) node.Idle x) f.is (by_block (record { some = f.some; bounded = f.bounded }))

idle_is : (t : Activity) → is_idle t ≡ true → t ≡ node.Idle
idle_is node.Idle e = refl
idle_is (node.Download w u v) e = cc
idle_is (node.Upload m u v) e = cc
idle_is (node.BlockDownload r v) e = cc
idle_is (node.BlockEnd b v) e = cc

-- on a bench whose master is idle nothing is set that is not booked
record Idled (a : Account) (s : State) : Type 0 where
  calm : Calm s
  dictionary : s.dictionary ≡ a.book.dictionary
  count : s.node.commits ≡ a.book.number
  number : a.book.number ≤ s.master.begun

idle_stage : (d : List Entry) (s : State) (w : Watch) (note : Option Note) (ahead : Bool) → Stage d s w note ahead → s.master.phase ≡ Idle → (ahead ≡ false) × Calm s
idle_stage d s w _ _ (rests own calm shut) e = (refl, calm)
idle_stage d s w _ _ (flies u k own few is_open same before none flight) e = cc
idle_stage d s w _ _ (over r k own calm shut before end judged) e = cc

idled : (a : Account) (s : State) → Inv a s → s.master.phase ≡ Idle → Idled a s
idled a s inv e =
    let k = idle_stage _ _ _ _ _ inv.stage e in
    let b = inv.base in
    record {
      calm = k.1;
      dictionary = subst (λ k. s.dictionary ≡ (set_if k a.book).dictionary) k.0 b.dictionary;
      count = subst (λ k. s.node.commits ≡ (set_if k a.book).number) k.0 b.count;
      number = omega (arith, b.number);
    }

-- a bench whose line was quieted and on which a start was sent
abbrev started : State → master.State → Frame → Bool → State
started s M f lost = record s { line = sent end.Node f lost quieted; master = M }

first_flight : (d : List Entry) (s : State) (M : master.State) (u : Awaiting) (q : Request) (lost : Bool) → is_idle s.node.activity ≡ true → Ready d M M.direction u s.node.activity q → Flight d (started s M (request_frame M.node q) lost) u false
first_flight d s M u q false idle ready = asks q ready refl refl (inl idle)
first_flight d s M u q true idle ready = silent false refl refl refl (λ e. cc) (inl idle)

note_begun : (M : master.State) (m : Multiplexor) (o : Order) → note_of (direction_of o) (opened M m o) ≡ record { multiplexor = m; value = value_ordered o }
note_begun M m order.Read = refl
note_begun M m (order.Write how v) = refl

begin_is : (M : master.State) (m : Multiplexor) (o : Order) (q : Request) → free M ≡ Ok tt → start m o ≡ Ok q → begin M m o ≡ record { next = opened M m o; answer = Ok (starting M q) }
unfolding begin
begin_is M m o q clear fits = rw (clear, fits)

counted_begun : (M : master.State) (m : Multiplexor) (o : Order) (q : Request) → free M ≡ Ok tt → start m o ≡ Ok q → Counted 1 (direction_of o) (opened M m o)
counted_begun M m order.Read q clear fits = of_read refl (omega arith) (omega arith)
counted_begun M m (order.Write how v) q clear fits =
    let o = order.Write how v in
    let is = begin_is M m o q clear fits in
    of_write M m how v (starting M q) [] 0 (ap (λ b. b.answer) is) (subst (λ K. calls.Run (begin M m o).next [] 0 K) (ap (λ b. b.next) is) calls.none) refl

accepted : (a : Account) (x : Losses) (m : Multiplexor) (o : Order) (q : Request) (lost : Bool) (s : State) → Inv a s → Indexed m → free s.master ≡ Ok tt → start m o ≡ Ok q → Goes a (event (Begin m o (Ok (s.master.begun + 1))) (request_frame s.master.node q ∷ []) x s) (started s (opened s.master m o) (request_frame s.master.node q) lost)
accepted a x m o q lost s inv own clear fits =
    let M = s.master in
    let K = opened M m o in
    let free = free_is M tt clear in
    let i = idled a s inv free.idle in
    let idle : is_idle s.node.activity ≡ true = elim i.calm.idle_in_time [ inl e ↦ e | inr h ↦ absurd (omega (arith, h.0, h.1, free.rested)) ] in
    let ready : Ready a.book.dictionary K (direction_of o) (first_awaited o) s.node.activity q = subst (λ t. Ready a.book.dictionary K (direction_of o) (first_awaited o) t q) (sym (idle_is s.node.activity idle)) (start_ready a.book.dictionary M m o q fits) in
    let flight = first_flight a.book.dictionary s K (first_awaited o) q lost idle ready in
    let counted = counted_begun M m o q clear fits in
    let t = started s K (request_frame M.node q) lost in
    let e : Witnessed = record { event = event (Begin m o (Ok (M.begun + 1))) (request_frame M.node q ∷ []) x s; set = false } in
    record {
      set = false;
      kept = record { sets = tt; reads = tt; verdict = tt; time = tt; few_frames = omega arith };
      inv = record {
        ahead = false;
        base = record {
          lawful = inv.base.lawful;
          indexed = own;
          same = inv.base.same;
          allowed = λ e. cc;
          dictionary = i.dictionary;
          count = i.count;
          number = omega (arith, i.number);
          begun = omega (arith, free.numbers);
          frames = counted;
        };
        stage = subst (λ n. Stage a.book.dictionary t (accounted e a).watch (Some n) false) (note_begun M m o) (flies (first_awaited o) false refl (omega arith) refl refl refl refl flight);
      };
    }

refused : (a : Account) (x : Losses) (m : Multiplexor) (o : Order) (e : BeginRefusal) (s : State) → Inv a s → Goes a (event (Begin m o (Err e)) [] x s) s
refused a x m o e s inv = still a (event (Begin m o (Err e)) [] x s) s (ap (λ w. record { book = a.book; watch = w }) (counting_none a.watch)) tt tt tt tt inv

-- either way
by_refusal : (a : Account) (x : Losses) (m : Multiplexor) (o : Order) (s t : State) (y : Result (Unit {0}) BeginRefusal) (z : Result Request BeginRefusal) (r : Result ℕ BeginRefusal) (fs : List Frame) → Inv a s → Indexed m → free s.master ≡ y → start m o ≡ z
    → r ≡ ticket_number (begin_if y z s.master m o).answer → fs ≡ started_frames (begin_if y z s.master m o).answer
    → t ≡ begun_as (begin_if y z s.master m o).answer (begin_if y z s.master m o).next x.of_master s
    → Goes a (event (Begin m o r) fs x s) t
by_refusal a x m o s t (Err e) z r fs inv own clear fits is sends leaves = rw (is, sends, leaves) (refused a x m o e s inv)
by_refusal a x m o s t (Ok u) (Err e) r fs inv own clear fits is sends leaves = rw (is, sends, leaves) (refused a x m o e s inv)
by_refusal a x m o s t (Ok tt) (Ok q) r fs inv own clear fits is sends leaves = rw (is, sends, leaves) (accepted a x m o q (first_lost x.of_master) s inv own clear fits)

pub begin_goes : (a : Account) (x : Losses) (fs : List Frame) (m : Multiplexor) (o : Order) (r : Result ℕ BeginRefusal) (s t : State) → Inv a s → Acts (Begin m o r) fs x s t → Goes a (event (Begin m o r) fs x s) t
unfolding begin begin_step
begin_goes a x fs m o r s t inv c = by_refusal a x m o s t (free s.master) (start m o) r fs inv c.0 refl refl c.1 c.2 c.3
