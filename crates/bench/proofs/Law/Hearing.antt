-- What a master makes of the answer that a node gives in an exchange.
use Rattle.std.proofs.Common.{◌≡◌, ℕ, zero, suc, ◌+◌, ◌-◌, ◌*◌, ◌<◌, ◌≤◌, min, Bool, true, false, cond, eqb, ltb, List, [], ◌++◌, length, take, drop, Some, None, Ok, refl, sym, ap, ◌∙◌, arith, length-append, length-take, length-drop, append_assoc, add-zero, eq-eqb}
use native.Mathlib.Nat.{min-le_left}
use Rattle.std.proofs.lemmas.Bool.{cond_both, eqb-false, ltb-true, le-ltb, lt-leb, le-leb}
use Rattle.std.proofs.lemmas.List.{take-append-drop}
use Rattle.wire.specs.declared.abort_code.AbortCode.{AbortCode}
use Rattle.wire.specs.declared.abort_code.AbortCode.TheVariants.{InvalidSequenceNumber}
use Rattle.wire.specs.declared.multiplexor.Multiplexor.{Multiplexor}
use Rattle.sdo.specs.Fits.{Indexed}
use Rattle.sdo.specs.Transfers.{Segmented}
use Rattle.sdo.specs.declared.crc_offer.CrcOffer.{CrcOffer}
use Rattle.sdo.specs.declared.crc_offer.CrcOffer.TheVariants.{Offered}
use Rattle.sdo.specs.declared.toggle.Toggle.{Toggle}
use Rattle.sdo.specs.declared.toggle.Toggle.TheVariants.{Zero}
use Rattle.sdo.specs.Segments.{other}
use Rattle.sdo.specs.Answers.{Answer}
use Rattle.sdo.specs.Frames.{answer_frame}
use Rattle.sdo.specs.RoundTrips.{AnswerFits}
use Rattle.sdo.proofs.RoundTrips.{answers_read_back}
use Rattle.dictionary.specs.Entries.{Entry, Lawful}
use Rattle.dictionary.specs.Laws.{There}
use Rattle.dictionary.specs.Questions.{value_at}
use Rattle.dictionary.specs.Verdicts.{is_there, read_verdict, write_verdict}
use Rattle.dictionary.proofs.Deciding.{read_decided}
use Rattle.wire.proofs.Multiplexors.{same_itself}
use Rattle.master.specs.declared.phase.Awaiting.{Awaiting}
use Rattle.master.specs.declared.phase.Awaiting.TheVariants as awaiting
use Rattle.master.specs.declared.phase.Phase.{Phase}
use Rattle.master.specs.declared.phase.Phase.TheVariants.{Open}
use Rattle.master.specs.declared.phase.SubBlock.{SubBlock}
use Rattle.master.specs.States as master
use Rattle.master.specs.Steps.{found, abort_heard, parting, done, send, send_segment, send_end, ask_segment, go_on, acknowledge, hear_initiate_upload, hear_upload_segment, hear_in, hear, answered, Step}
use Rattle.master.specs.Values.{segments, unused}
use Rattle.master.proofs.Addressing.{addressed}
use Rattle.node.specs.States.{Activity, Idle, BlockDownload, BlockEnd, next_sub_block}
use Rattle.node.specs.States as node
use Rattle.master.specs.declared.direction.Direction.{Direction}
use Rattle.master.specs.declared.direction.Direction.TheVariants as way
use Rattle.bench.proofs.Law.Exchange.{order_start, block_order, verdict, Orderly, Replies, Reading, SubBlockSent, Rising, numbers}
use Rattle.bench.proofs.Law.Exchange as exchange
use Rattle.bench.proofs.Law.Outcomes.{SameOrder, Sends, HeardAs, over, asks_on, sends_block}
use Rattle.bench.proofs.Law.Outcomes as outcome
use Rattle.bench.proofs.Law.Serving.{toggle_itself}

-- an answer of an exchange fits its frame
fitting : {d : List Entry} {M : master.State} {nb : ℕ} {dir : Direction} {w : Awaiting} {t : Activity} {ahead lost : Bool} {a : Answer} → Indexed M.multiplexor → Replies d M nb dir w t ahead lost a → AnswerFits a
fitting own (exchange.refuses _ _ _ c is proper) = (own, proper)
fitting own (exchange.sets_at_once _ free) = own
fitting own (exchange.sets_segments _ u k last free) = tt
fitting own (exchange.sets_block _ free) = tt
fitting own (exchange.starts _ fine) = own
fitting own (exchange.takes _ u j fine more) = tt
fitting own (exchange.gives_at_once _ free some few) = (own, (some, few))
fitting own (exchange.announces _ nothing unasked reading) = (own, omega (arith, reading.bounded))
fitting own (exchange.gives _ u rest reading more) = omega (arith, length-take 7 rest)
fitting own (exchange.gives_last _ u rest reading few) = few
fitting own (exchange.starts_block _ fine some few) = (own, omega arith)
fitting own (exchange.keeps _ x k sent below short left) = (omega (arith, sent.fitting, sent.few), omega (arith, sent.few))
fitting own (exchange.keeps_all _ x v sent all whole) = (omega (arith, sent.fitting, sent.few), omega (arith, sent.few))

heard_answer : (M : master.State) (w : Awaiting) (a : Answer) → M.phase ≡ Open w → AnswerFits a → hear M (Some (answer_frame M.node a)) ≡ answered M w a
unfolding hear
heard_answer M w a own fits = ap (λ p. hear_in M p (answer_frame M.node a)) own ∙ addressed M w (answer_frame M.node a) (Some a) refl (sym (answers_read_back a fits))

-- numbers that follow one another rise
rising : (low k high : ℕ) → low + k ≤ high → Rising low high (numbers low k)
rising low zero high h = tt
rising low (suc k) high h = (omega arith, omega arith, rising (low + 1) k high (omega arith))

-- an entry that may be read is there
readable : (d : List Entry) (m : Multiplexor) → read_verdict d m ≡ None → There d m
readable d m free = ap is_there ((read_decided d m).0 free).there

-- a step changes nothing of the order
same_order : {M : master.State} {dir : Direction} {p : Phase} {v : List ℕ} {h n r : ℕ} → (dir ≡ way.Download → v ≡ M.value) → SameOrder dir M (record M { phase = p; value = v; highest = h; ticks = n; rest = r })
same_order kept = record { node = refl; begun = refl; multiplexor = refl; direction = refl; value = kept }

still_orderly : {M : master.State} {p : Phase} {h n r : ℕ} → Orderly M → Orderly (record M { phase = p; highest = h; ticks = n; rest = r })
still_orderly fine = record { some = fine.some; bounded = fine.bounded }

-- a write goes on with its value
writes_on : {M : master.State} {w : Awaiting} {h : ℕ} → Sends way.Download M (send M w h M.value []).next w
writes_on = record { same = same_order (λ _. refl); phase = refl; ticks = refl; rest = refl; more = λ e. cc }

module _ {d : List Entry} {M : master.State} {nb : ℕ} {lost : Bool} where
  -- a write has succeeded, or a read
  has_written : write_verdict d M.multiplexor M.value ≡ None → HeardAs d M nb way.Download Idle true lost (done M M.value)
  has_written free = over (Ok tt) refl (same_order (λ _. refl)) refl (outcome.written free) (λ _. free) (outcome.done refl refl refl)

  has_read : (v : List ℕ) → v ≡ value_at d M.multiplexor → read_verdict d M.multiplexor ≡ None → HeardAs d M nb way.Upload Idle false lost (done M v)
  has_read v is free = over (Ok tt) refl (same_order (λ e. cc)) refl (outcome.read free (readable d M.multiplexor free) is) (λ _. free) (outcome.done refl refl refl)

  -- the node has refused
  refused : (dir : Direction) (c : AbortCode) → verdict dir d M ≡ Some c → HeardAs d M nb dir Idle false lost (abort_heard M c)
  unfolding abort_heard
  refused dir c is = over _ refl (same_order (λ _. refl)) refl (outcome.failed dir false _ (λ e. cc)) (λ _. (is, refl)) (outcome.abort_heard refl refl)

  -- too few segments were kept too often
  given_up : (x : SubBlock) (t : Activity) → lost ≡ true → HeardAs d M nb way.Download t false lost (found M (awaiting.BlockDownload x) InvalidSequenceNumber)
  unfolding found parting
  given_up x t is = over _ refl (same_order (λ _. refl)) refl (outcome.failed way.Download false _ (λ e. cc)) (λ e. absurd cc) (outcome.found M.multiplexor InvalidSequenceNumber refl refl)

  -- a write goes on with its next segment, with its end or with a sub-block
  next_segment : (t : Toggle) (j : ℕ) → Orderly M → 7 * j < length M.value → HeardAs d M nb way.Download (node.Download (order_start M) t (take (7 * j) M.value)) false lost (send_segment M t (j + 1))
  next_segment t j fine more = asks_on _ _ refl refl writes_on refl (exchange.one_more t j (still_orderly fine) more)

  block_end : (c : CrcOffer) (w : List ℕ) → c ≡ Offered → Orderly M → take (length w - unused M.value) w ≡ M.value → HeardAs d M nb way.Download (BlockEnd (block_order M) w) false lost (send_end M c)
  block_end c w offered fine whole = rw offered (asks_on _ _ refl refl writes_on refl (exchange.closing w (still_orderly fine) whole))

  next_sub : (c : CrcOffer) (b short : ℕ) → c ≡ Offered → Orderly M → 1 ≤ nb → nb ≤ 127 → short ≤ 8 → b < segments M.value → HeardAs d M nb way.Download (BlockDownload (next_sub_block (block_order M)) (take (7 * b) M.value)) false lost (go_on M c nb b short)
  next_sub c b short offered fine some few shorts behind =
      let left = segments M.value - b in
      let count = min nb left in
      let x : SubBlock = record { crc = c; acknowledged = b; count = count; short = short } in
      rw (lt-leb (segments M.value) b behind)
      (sends_block x refl refl refl writes_on refl (record {
        sent = record {
          orderly = still_orderly fine;
          crc = offered;
          some = omega arith;
          fitting = min-le_left nb left;
          few = few;
          within = omega arith;
          ends = grind arith;
          short = shorts;
        };
        kept = 0;
        passed = 0;
        wanting = omega arith;
        up = omega arith;
        activity = rw add-zero refl;
        rising = rising 0 count count (omega arith);
        clear = λ _. ap (numbers 0) (omega arith);
      }))

  -- a read goes on with the next request
  next_request : (u : Toggle) (v rest : List ℕ) → v ++ rest ≡ value_at d M.multiplexor → read_verdict d M.multiplexor ≡ None → 1 ≤ length rest → length (value_at d M.multiplexor) ≤ 1024 → 7 * M.highest ≤ length v → HeardAs d M nb way.Upload (node.Upload M.multiplexor u rest) false lost (ask_segment M u (Some (length (value_at d M.multiplexor))) v)
  next_request u v rest whole free some bounded asked =
      let size = length-append v rest in
      let short : length v ≤ 1024 = omega (arith, size, ap length whole) in
      asks_on _ _ refl refl
      (record { same = same_order (λ e. cc); phase = refl; ticks = refl; rest = refl; more = λ _. omega arith })
      refl
      (exchange.asking u rest (record { whole = whole; allowed = free; some = some; bounded = bounded; asked = omega arith }))

  -- some segments of a sub-block were kept, and others are left
  kept_some : (x : SubBlock) (a : ℕ) → SubBlockSent M nb x → a ≤ x.count → (a < x.count → lost ≡ true) → x.acknowledged + a < segments M.value → HeardAs d M nb way.Download (BlockDownload (next_sub_block (block_order M)) (take (7 * (x.acknowledged + a)) M.value)) false lost (acknowledge M x a nb)
  kept_some x a sent below cut behind =
      let again = go_on M x.crc nb (x.acknowledged + a) (x.short + 1) in
      let failing = found M (awaiting.BlockDownload x) InvalidSequenceNumber in
      let P : Step → Type 0 = λ p. HeardAs d M nb way.Download (BlockDownload (next_sub_block (block_order M)) (take (7 * (x.acknowledged + a)) M.value)) false lost p in
      let some : 1 ≤ nb = omega (arith, sent.some, sent.fitting) in
      rw (le-leb _ _ some, le-leb _ _ sent.few, le-ltb _ _ below)
      (cond_both (eqb a x.count) (go_on M x.crc nb (x.acknowledged + a) x.short) (cond (ltb x.short 8) again failing) P
      (λ _. next_sub x.crc (x.acknowledged + a) x.short sent.crc sent.orderly some sent.few sent.short behind)
      (λ ne. cond_both (ltb x.short 8) again failing P
      (λ lt. next_sub x.crc (x.acknowledged + a) (x.short + 1) sent.crc sent.orderly some sent.few (omega (arith, ltb-true x.short 8 lt)) behind)
      (λ _. given_up x _ (cut (omega (arith, eqb-false a x.count ne))))))

  -- all segments of the last sub-block were kept
  kept_all : (x : SubBlock) (w : List ℕ) → SubBlockSent M nb x → x.acknowledged + x.count ≡ segments M.value → take (length w - unused M.value) w ≡ M.value → HeardAs d M nb way.Download (BlockEnd (block_order M) w) false lost (acknowledge M x x.count nb)
  kept_all x w sent all whole =
      rw (le-leb 1 nb (omega (arith, sent.some, sent.fitting)), le-leb _ _ sent.few, le-ltb x.count x.count (omega arith), eq-eqb x.count x.count refl, le-leb (segments M.value) (x.acknowledged + x.count) (omega arith))
      (block_end x.crc w sent.crc sent.orderly whole)

  -- a segment of a read has come, and others are left
  came : (t : Toggle) (rest : List ℕ) → Reading d M rest → 7 < length rest → HeardAs d M nb way.Upload (node.Upload M.multiplexor (other t) (drop 7 rest)) false lost (hear_upload_segment M (awaiting.UploadSegment t (Some (length (value_at d M.multiplexor)))) t (take 7 rest) false)
  came t rest reading more =
      let v = M.value ++ take 7 rest in
      let size : length v ≡ length M.value + 7 = simp (length-append, length-take) (omega arith) in
      let whole : v ++ drop 7 rest ≡ value_at d M.multiplexor = rw (append_assoc, take-append-drop) reading.whole in
      let left : length v + length (drop 7 rest) ≡ length (value_at d M.multiplexor) = sym (length-append v (drop 7 rest)) ∙ ap length whole in
      rw (toggle_itself t, le-ltb 1024 (length v) (omega (arith, reading.bounded)))
      (next_request (other t) v (drop 7 rest) whole reading.allowed (simp length-drop (omega arith)) reading.bounded (omega (arith, reading.asked)))

  -- the last one has come
  came_last : (t : Toggle) (rest : List ℕ) → Reading d M rest → HeardAs d M nb way.Upload Idle false lost (hear_upload_segment M (awaiting.UploadSegment t (Some (length (value_at d M.multiplexor)))) t rest true)
  came_last t rest reading =
      let v = M.value ++ rest in
      let size : length v ≡ length M.value + length rest = length-append M.value rest in
      let whole : length v ≡ length (value_at d M.multiplexor) = ap length reading.whole in
      rw (toggle_itself t, le-ltb 1024 (length v) (omega (arith, reading.bounded)), le-ltb (length v) 1 (omega (arith, reading.some)), eq-eqb _ _ (sym whole))
      (has_read v reading.whole reading.allowed)

  -- a read has started
  came_size : Reading d M (value_at d M.multiplexor) → M.highest ≡ 0 → HeardAs d M nb way.Upload (node.Upload M.multiplexor Zero (value_at d M.multiplexor)) false lost (hear_initiate_upload M awaiting.InitiateUpload M.multiplexor (Segmented (Some (length (value_at d M.multiplexor)))))
  came_size reading unasked =
      rw (same_itself, le-leb _ _ reading.some, le-leb _ _ reading.bounded)
      (next_request Zero [] _ refl reading.allowed reading.some reading.bounded (omega arith))

-- what comes of each answer
heard_as : {d : List Entry} {M : master.State} {nb : ℕ} {dir : Direction} {w : Awaiting} {t : Activity} {ahead lost : Bool} {a : Answer} → Replies d M nb dir w t ahead lost a → HeardAs d M nb dir t ahead lost (answered M w a)
heard_as (exchange.refuses dir w lost c is proper) = refused dir c is
heard_as (exchange.sets_at_once lost free) = rw same_itself (has_written free)
heard_as (exchange.sets_segments lost t k last free) = rw (toggle_itself t, last) (has_written free)
heard_as (exchange.sets_block lost free) = has_written free
heard_as (exchange.starts lost fine) = rw same_itself (next_segment Zero 0 fine fine.some)
heard_as (exchange.takes lost t j fine more) = rw (toggle_itself t, lt-leb _ _ more) (next_segment (other t) (j + 1) fine more)
heard_as (exchange.gives_at_once lost free some few) = rw same_itself (has_read _ refl free)
heard_as (exchange.announces lost nothing unasked reading) = came_size reading unasked
heard_as (exchange.gives lost t rest reading more) = came t rest reading more
heard_as (exchange.gives_last lost t rest reading few) = came_last t rest reading
heard_as (exchange.starts_block lost fine some few) = rw (same_itself, le-leb _ _ some, le-leb _ _ few) (next_sub Offered 0 0 refl fine some few (omega arith) (omega (arith, fine.some)))
heard_as (exchange.keeps lost x a sent below cut behind) = kept_some x a sent below cut behind
heard_as (exchange.keeps_all lost x v sent all whole) = kept_all x v sent all whole

pub hear_reply : (d : List Entry) → Lawful d → (M : master.State) (nb : ℕ) (dir : Direction) (w : Awaiting) (t : Activity) (ahead lost : Bool) (a : Answer) → Indexed M.multiplexor → M.phase ≡ Open w → Replies d M nb dir w t ahead lost a → HeardAs d M nb dir t ahead lost (hear M (Some (answer_frame M.node a)))
hear_reply d lawful M nb dir w t ahead lost a own is r = rw (heard_answer M w a is (fitting own r)) (heard_as r)
