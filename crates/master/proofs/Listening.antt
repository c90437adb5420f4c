-- In every open transfer the notes of one who listens stand beside the master, whatever answer it hears.
use Rattle.std.proofs.Common.{◌≡◌, ℕ, ◌+◌, ◌-◌, ◌*◌, ◌<◌, ◌≤◌, min, max, Bool, true, false, cond, ◌&&◌, ◌||◌, eqb, ltb, leb, List, [], ◌++◌, length, map, Some, None, Ok, Err, Option, sym, refl, ap, ◌∙◌, subst, inl, inr, arith, lit<}
use Rattle.std.specs.Option.{option_or, option_map}
use Rattle.std.proofs.lemmas.Bool.{cond_both, cases_Bool, eqb-true, eq-eqb, ltb-false, leb-true, leb-false, le-leb, lt-leb, and_parts, and_left, and_right}
use Rattle.wire.specs.declared.multiplexor.Multiplexor.{Multiplexor}
use Rattle.wire.specs.declared.node_number.NodeNumber.{NodeNumber}
use Rattle.wire.specs.declared.abort_code.AbortCode.{AbortCode}
use Rattle.wire.specs.declared.abort_code.AbortCode.TheVariants.{UnknownCommand, ToggleNotAlternated, LengthMismatch, OutOfMemory, InvalidBlockSize, InvalidSequenceNumber}
use Rattle.sdo.specs.Fits.{Proper}
use Rattle.wire.specs.Multiplexors.{same}
use Rattle.sdo.specs.Transfers.{Transfer, Expedited, Segmented}
use Rattle.sdo.specs.declared.crc_offer.CrcOffer.{CrcOffer}
use Rattle.sdo.specs.declared.toggle.Toggle.{Toggle}
use Rattle.sdo.specs.declared.toggle.Toggle.TheVariants.{Zero}
use Rattle.sdo.specs.Segments.{segment, differs, other, same_toggle}
use Rattle.sdo.specs.Frames.{request_frame}
use Rattle.sdo.specs.Requests as request
use Rattle.sdo.specs.Answers.{Answer}
use Rattle.sdo.specs.Answers as answer
use Rattle.master.specs.declared.phase.Phase.{Phase}
use Rattle.master.specs.declared.phase.Phase.TheVariants.{Idle, Open, Over}
use Rattle.master.specs.declared.phase.Awaiting.{Awaiting}
use Rattle.master.specs.declared.phase.Awaiting.TheVariants as awaiting
use Rattle.master.specs.declared.phase.SubBlock.{SubBlock}
use Rattle.master.specs.declared.phase.Finder.TheVariants.{Master, Node}
use Rattle.master.specs.Values.{segments, unused, is_last, may_come, is_block_size, closing_crc}
use Rattle.master.specs.States.{State}
use Rattle.master.specs.SubBlocks.{sub_block_of}
use Rattle.master.specs.Steps.{Step, may_have_set, found, unexpected, abort_heard, done, send_segment, ask_segment, send_sub_block, send_end, go_on, block_started, kept, segment_taken, upload_started, read_whole, read_on, started, toggled, hear_initiate_download, hear_download_segment, hear_initiate_upload, hear_upload_segment, hear_initiate_block, hear_acknowledgement, hear_end, answered, read, parting}
use Rattle.master.specs.Listening.{Requests, Segments, Notes, coming_behind, abort_taken, after_answer, Sent, noted, notes_on, failure_by, failure_in}
use Rattle.sdo.proofs.FieldsBack.{code_back}
use Rattle.master.proofs.Noting.{request_read, segment_back, asked_back, end_back, abort_read, Filled, filled}

-- segments go one by one: the last one had number k
pub record OneByOne (v : List ℕ) (k : ℕ) (u : Notes) : Type 0 where
  pub asking : u.coming ≡ Requests
  pub number : u.highest ≡ k
  pub long : length v ≤ 1024

-- segments go in sub-blocks: b are acknowledged, and those up to number e were sent
pub record InBlocks (v : List ℕ) (b e : ℕ) (u : Notes) : Type 0 where
  pub filling : u.coming ≡ Segments b (is_last v u.highest)
  pub sent : e ≤ u.highest
  pub within : u.highest ≤ segments v
  pub some : 1 ≤ length v
  pub long : length v ≤ 1024

abbrev pub Beside : List ℕ → Awaiting → Notes → Type 0
Beside v awaiting.ExpeditedDownload u = Unit {0}
Beside v awaiting.InitiateDownload u = OneByOne v 0 u
Beside v (awaiting.DownloadSegment t k) u = OneByOne v k u
Beside v awaiting.InitiateUpload u = u.coming ≡ Requests
Beside v (awaiting.UploadSegment t size) u = u.coming ≡ Requests
Beside v awaiting.InitiateBlockDownload u = InBlocks v 0 0 u
Beside v (awaiting.BlockDownload x) u = InBlocks v x.acknowledged (x.acknowledged + x.count) u
Beside v awaiting.EndBlockDownload u = Unit {0}

-- what a failure would tell
pub record Fair (s : State) (w : Awaiting) (u : Notes) : Type 0 where
  pub complete : u.complete ≡ may_have_set w s.value
  pub highest : s.highest ≡ min u.highest 65535
  pub abort : u.abort ≡ None

pub record Abreast (n : NodeNumber) (s : State) (w : Awaiting) (u : Notes) : Type 0 where
  pub node : n ≡ s.node
  pub fair : Fair s w u
  pub beside : Beside s.value w u

-- and the notes beside a transfer that is over
abbrev pub Stands : NodeNumber → State → Notes → Phase → Type 0
Stands n s u Idle = Unit {0}
Stands n s u (Open w) = Abreast n s w u
Stands n s u (Over (Ok x)) = Unit {0}
Stands n s u (Over (Err f)) = failure_in u ≡ Some f

no_more : (x : Bool) → (x || false) ≡ x
no_more true = refl
no_more false = refl

module _ (s : State) where
  abbrev pub Keeps : Notes → Step → Type 0
  Keeps u p = Stands s.node p.next (notes_on s.node u (map Sent p.sending.frames)) p.next.phase

  -- What the master ends: its code can go into a frame.

  pub ends : (w : Awaiting) (u : Notes) (c : AbortCode) → Proper c → Fair s w u → failure_in (noted s.node u (Sent (request_frame s.node (request.Abort s.multiplexor c)))) ≡ Some (record { code = c; finder = Master; may_be_set = may_have_set w s.value; segment = s.highest })
  ends w u c proper fair =
      let x = noted s.node u (Sent (request_frame s.node (request.Abort s.multiplexor c))) in
      let read = abort_read s.multiplexor c (code_back s.multiplexor c proper) u fair.abort s.node in
      ap (λ a. option_map (failure_by x) a) read.abort
      ∙ ap (λ b. Some (record { code = c; finder = Master; may_be_set = b; segment = min x.highest 65535 })) (read.complete ∙ fair.complete)
      ∙ ap (λ k. Some (record { code = c; finder = Master; may_be_set = may_have_set w s.value; segment = k })) (ap (λ k. min k 65535) read.highest ∙ sym fair.highest)

  fails : (w : Awaiting) (u : Notes) (c : AbortCode) → Proper c → Fair s w u → Keeps u (found s w c)
  unfolding found parting
  fails w u c proper fair = ends w u c proper fair

  -- What the master sends.

  one_sent : (t : Toggle) (k : ℕ) (u : Notes) → u.coming ≡ Requests → u.complete ≡ false → u.abort ≡ None → k ≡ u.highest + 1 → k ≤ 147 → length s.value ≤ 1024 → Keeps u (send_segment s t k)
  one_sent t k u asking before none number few long =
      let last = is_last s.value k in
      let q = request.DownloadSegment t (segment k s.value) last in
      subst (λ x. Abreast s.node (send_segment s t k).next (awaiting.DownloadSegment t k) x) (sym (request_read s.node u q asking (segment_back u t k s.value last)))
      (record {
        node = refl;
        fair = record { complete = ap (λ c. last || c) before ∙ no_more last; highest = omega arith; abort = ap (λ a. option_or a None) none };
        beside = record { asking = refl; number = sym number; long = long };
      })

  one_asked : (t : Toggle) (size : Option ℕ) (v : List ℕ) (u : Notes) → u.coming ≡ Requests → u.complete ≡ false → u.abort ≡ None → s.highest ≡ min u.highest 65535 → Keeps u (ask_segment s t size v)
  one_asked t size v u asking before none high =
      subst (λ x. Abreast s.node (ask_segment s t size v).next (awaiting.UploadSegment t size) x) (sym (request_read s.node u (request.UploadSegment t) asking (asked_back u t)))
      (record { node = refl; fair = record { complete = before; highest = omega arith; abort = ap (λ a. option_or a None) none }; beside = refl })

  end_sent : (c : CrcOffer) (u : Notes) → u.coming ≡ Requests → u.abort ≡ None → s.highest ≡ min u.highest 65535 → Keeps u (send_end s c)
  end_sent c u asking none high =
      let q = request.EndBlockDownload (unused s.value) (closing_crc c s.value) in
      subst (λ x. Abreast s.node (send_end s c).next awaiting.EndBlockDownload x) (sym (request_read s.node u q asking (end_back u (unused s.value) (closing_crc c s.value) (omega arith))))
      (record { node = refl; fair = record { complete = refl; highest = high; abort = ap (λ a. option_or a None) none }; beside = tt })

  block_sent : (c : CrcOffer) (b count short : ℕ) (u : Notes) → InBlocks s.value b b u → u.complete ≡ false → u.abort ≡ None → s.highest ≡ min u.highest 65535 → 1 ≤ count → count ≤ 127 → b + count ≤ segments s.value → Keeps u (send_sub_block s c b count short)
  block_sent c b count short u blocks before none high some few all =
      let w = notes_on s.node u (map Sent (sub_block_of s.node s.value b count)) in
      let f : Filled s.value b (1 + count) u w = filled s.node s.value b u 1 count blocks.filling (omega arith) (omega arith) (omega (arith, blocks.sent)) in
      let whole : w.highest ≡ max u.highest (b + count) = omega (arith, f.highest) in
      let within : u.highest ≤ segments s.value = blocks.within in
      let long : length s.value ≤ 1024 = blocks.long in
      record {
        node = refl;
        fair = record { complete = f.complete ∙ before; highest = omega arith; abort = f.abort ∙ none };
        beside = record { filling = f.coming; sent = omega arith; within = omega arith; some = blocks.some; long = long };
      }

  goes_on : (c : CrcOffer) (n b short : ℕ) (u : Notes) → 1 ≤ n → n ≤ 127 → (b < segments s.value → InBlocks s.value b b u) → (segments s.value ≤ b → u.coming ≡ Requests) → u.complete ≡ false → u.abort ≡ None → s.highest ≡ min u.highest 65535 → Keeps u (go_on s c n b short)
  goes_on c n b short u low most more_come all_there before none high =
      let rest = segments s.value - b in
      let count = min n rest in
      cond_both (leb (segments s.value) b) (send_end s c) (send_sub_block s c b count short) (λ p. Keeps u p)
      (λ e. end_sent c u (all_there (leb-true (segments s.value) b e)) none high)
      (λ e.
      let behind : b < segments s.value = leb-false (segments s.value) b e in
      block_sent c b count short u (more_come behind) before none high (omega arith) (omega arith) (omega arith))

  -- What is asked of an answer before it is taken.

  started_keeps : (w : Awaiting) (u : Notes) (m : Multiplexor) (p : Step) → Fair s w u → Keeps u p → Keeps u (started s w m p)
  started_keeps w u m p fair h = cond_both (same m s.multiplexor) p (unexpected s w) (λ q. Keeps u q) (λ _. h) (λ _. fails w u UnknownCommand (lit< tt) fair)

  toggled_keeps : (w : Awaiting) (u : Notes) (t r : Toggle) (p : Step) → Fair s w u → Keeps u p → Keeps u (toggled s w t r p)
  toggled_keeps w u t r p fair h = cond_both (same_toggle t r) p (found s w ToggleNotAlternated) (λ q. Keeps u q) (λ _. h) (λ _. fails w u ToggleNotAlternated (lit< tt) fair)

  sized : (w : Awaiting) (u : Notes) (n : ℕ) (p : Step) → Fair s w u → (1 ≤ n → n ≤ 127 → Keeps u p) → Keeps u (cond (is_block_size n) p (found s w InvalidBlockSize))
  sized w u n p fair h =
      cond_both (is_block_size n) p (found s w InvalidBlockSize) (λ q. Keeps u q)
      (λ e. h (leb-true 1 n (and_parts (leb 1 n) (leb n 127) e).0) (leb-true n 127 (and_parts (leb 1 n) (leb n 127) e).1))
      (λ _. fails w u InvalidBlockSize (lit< tt) fair)

-- Each answer, where the notes stood beside the master before it.

module _ (s : State) (u : Notes) where
  abbrev Near : Awaiting → Type 0
  Near w = Abreast s.node s w u

  abbrev KeepsAt : Option Answer → Step → Type 0
  KeepsAt o p = Keeps s (after_answer u o) p

  fair_after : (w : Awaiting) (o : Option Answer) → abort_taken o ≡ None → Fair s w u → Fair s w (after_answer u o)
  fair_after w o no_abort fair = record { complete = fair.complete; highest = fair.highest; abort = ap (λ a. option_or a (abort_taken o)) fair.abort ∙ no_abort }

  still_asking : (o : Option Answer) → u.coming ≡ Requests → (after_answer u o).coming ≡ Requests
  still_asking o e = ap (λ c. coming_behind c u.highest o) e

  refused : (w : Awaiting) (o : Option Answer) → abort_taken o ≡ None → Near w → KeepsAt o (unexpected s w)
  refused w o no_abort k = fails s w (after_answer u o) UnknownCommand (lit< tt) (fair_after w o no_abort k.fair)

  initiate_download : (w : Awaiting) (m : Multiplexor) → Near w → KeepsAt (Some (answer.InitiateDownload m)) (hear_initiate_download s w m)
  initiate_download awaiting.ExpeditedDownload m k =
      let o : Option Answer = Some (answer.InitiateDownload m) in
      started_keeps s awaiting.ExpeditedDownload (after_answer u o) m (done s s.value) (fair_after awaiting.ExpeditedDownload o refl k.fair) tt
  initiate_download awaiting.InitiateDownload m k =
      let o : Option Answer = Some (answer.InitiateDownload m) in
      let w = after_answer u o in
      let fair = fair_after awaiting.InitiateDownload o refl k.fair in
      started_keeps s awaiting.InitiateDownload w m (send_segment s Zero 1) fair
      (one_sent s Zero 1 w (still_asking o k.beside.asking) fair.complete fair.abort (omega (arith, k.beside.number)) (omega arith) k.beside.long)
  initiate_download w m k = refused w (Some (answer.InitiateDownload m)) refl k

  next_segment : (t r : Toggle) (i : ℕ) → Near (awaiting.DownloadSegment t i) → KeepsAt (Some (answer.DownloadSegment r)) (segment_taken s t i)
  next_segment t r i k =
      let o : Option Answer = Some (answer.DownloadSegment r) in
      let w = after_answer u o in
      let fair = fair_after (awaiting.DownloadSegment t i) o refl k.fair in
      cond_both (is_last s.value i) (done s s.value) (send_segment s (other t) (i + 1)) (λ p. Keeps s w p)
      (λ _. tt)
      (λ e.
      let longer : 7 * i < length s.value = leb-false (length s.value) (7 * i) e in
      let long : length s.value ≤ 1024 = k.beside.long in
      one_sent s (other t) (i + 1) w (still_asking o k.beside.asking) (fair.complete ∙ e) fair.abort (ap (λ j. j + 1) (sym k.beside.number)) (omega arith) long)

  download_segment : (w : Awaiting) (r : Toggle) → Near w → KeepsAt (Some (answer.DownloadSegment r)) (hear_download_segment s w r)
  download_segment (awaiting.DownloadSegment t i) r k =
      let o : Option Answer = Some (answer.DownloadSegment r) in
      let w = awaiting.DownloadSegment t i in
      toggled_keeps s w (after_answer u o) t r (segment_taken s t i) (fair_after w o refl k.fair) (next_segment t r i k)
  download_segment w r k = refused w (Some (answer.DownloadSegment r)) refl k

  upload_starts : (m : Multiplexor) (how : Transfer) → Near awaiting.InitiateUpload → KeepsAt (Some (answer.InitiateUpload m how)) (upload_started s awaiting.InitiateUpload how)
  upload_starts m (Expedited v) k = tt
  upload_starts m (Segmented size) k =
      let o : Option Answer = Some (answer.InitiateUpload m (Segmented size)) in
      let w = after_answer u o in
      let fair = fair_after awaiting.InitiateUpload o refl k.fair in
      cond_both (may_come size) (ask_segment s Zero size []) (found s awaiting.InitiateUpload OutOfMemory) (λ p. Keeps s w p)
      (λ _. one_asked s Zero size [] w (still_asking o k.beside) fair.complete fair.abort fair.highest)
      (λ _. fails s awaiting.InitiateUpload w OutOfMemory (lit< tt) fair)

  initiate_upload : (w : Awaiting) (m : Multiplexor) (how : Transfer) → Near w → KeepsAt (Some (answer.InitiateUpload m how)) (hear_initiate_upload s w m how)
  initiate_upload awaiting.InitiateUpload m how k =
      let o : Option Answer = Some (answer.InitiateUpload m how) in
      started_keeps s awaiting.InitiateUpload (after_answer u o) m (upload_started s awaiting.InitiateUpload how) (fair_after awaiting.InitiateUpload o refl k.fair) (upload_starts m how k)
  initiate_upload w m how k = refused w (Some (answer.InitiateUpload m how)) refl k

  reads_on : (t : Toggle) (size : Option ℕ) (o : Option Answer) (last : Bool) (v : List ℕ) → abort_taken o ≡ None → Near (awaiting.UploadSegment t size) → KeepsAt o (read_on s (awaiting.UploadSegment t size) t size last v)
  reads_on t size o true v no_abort k =
      let w = awaiting.UploadSegment t size in
      let x = after_answer u o in
      let fair = fair_after w o no_abort k.fair in
      let P : Step → Type 0 = λ p. Keeps s x p in
      cond_both (ltb 1024 (length v)) (found s w OutOfMemory) (read_whole s w size v) P
      (λ _. fails s w x OutOfMemory (lit< tt) fair)
      (λ _. cond_both (ltb (length v) 1) (found s w OutOfMemory) (cond (differs size (length v)) (found s w LengthMismatch) (done s v)) P
      (λ _. fails s w x OutOfMemory (lit< tt) fair)
      (λ _. cond_both (differs size (length v)) (found s w LengthMismatch) (done s v) P
      (λ _. fails s w x LengthMismatch (lit< tt) fair)
      (λ _. tt)))
  reads_on t size o false v no_abort k =
      let w = awaiting.UploadSegment t size in
      let x = after_answer u o in
      let fair = fair_after w o no_abort k.fair in
      cond_both (ltb 1024 (length v)) (found s w OutOfMemory) (ask_segment s (other t) size v) (λ p. Keeps s x p)
      (λ _. fails s w x OutOfMemory (lit< tt) fair)
      (λ _. one_asked s (other t) size v x (still_asking o k.beside) fair.complete fair.abort fair.highest)

  upload_segment : (w : Awaiting) (r : Toggle) (x : List ℕ) (last : Bool) → Near w → KeepsAt (Some (answer.UploadSegment r x last)) (hear_upload_segment s w r x last)
  upload_segment (awaiting.UploadSegment t size) r x last k =
      let o : Option Answer = Some (answer.UploadSegment r x last) in
      let w = awaiting.UploadSegment t size in
      toggled_keeps s w (after_answer u o) t r (read_on s w t size last (s.value ++ x)) (fair_after w o refl k.fair) (reads_on t size o last (s.value ++ x) refl k)
  upload_segment w r x last k = refused w (Some (answer.UploadSegment r x last)) refl k

  block_starts : (m : Multiplexor) (c : CrcOffer) (n : ℕ) → Near awaiting.InitiateBlockDownload → KeepsAt (Some (answer.InitiateBlockDownload m c n)) (block_started s awaiting.InitiateBlockDownload c n)
  block_starts m c n k =
      let o : Option Answer = Some (answer.InitiateBlockDownload m c n) in
      let w = after_answer u o in
      let fair = fair_after awaiting.InitiateBlockDownload o refl k.fair in
      let b = k.beside in
      let some : 1 ≤ length s.value = b.some in
      sized s awaiting.InitiateBlockDownload w n (go_on s c n 0 0) fair (λ low most. goes_on s c n 0 0 w low most
      (λ _. record { filling = ap (λ x. coming_behind x u.highest o) b.filling; sent = omega arith; within = b.within; some = some; long = b.long })
      (λ none_left. absurd (omega arith))
      fair.complete fair.abort fair.highest)

  initiate_block : (w : Awaiting) (m : Multiplexor) (c : CrcOffer) (n : ℕ) → Near w → KeepsAt (Some (answer.InitiateBlockDownload m c n)) (hear_initiate_block s w m c n)
  initiate_block awaiting.InitiateBlockDownload m c n k =
      let o : Option Answer = Some (answer.InitiateBlockDownload m c n) in
      started_keeps s awaiting.InitiateBlockDownload (after_answer u o) m (block_started s awaiting.InitiateBlockDownload c n) (fair_after awaiting.InitiateBlockDownload o refl k.fair) (block_starts m c n k)
  initiate_block w m c n k = refused w (Some (answer.InitiateBlockDownload m c n)) refl k

  module _ (x : SubBlock) (a n : ℕ) (k : Near (awaiting.BlockDownload x)) (low : 1 ≤ n) (most : n ≤ 127) where
    -- a segments more are acknowledged
    more_acknowledged : (short : ℕ) → a ≤ x.count → KeepsAt (Some (answer.AcknowledgeBlock a n)) (go_on s x.crc n (x.acknowledged + a) short)
    more_acknowledged short few =
        let o : Option Answer = Some (answer.AcknowledgeBlock a n) in
        let w = after_answer u o in
        let fair = fair_after (awaiting.BlockDownload x) o refl k.fair in
        let b = x.acknowledged + a in
        let ended = is_last s.value u.highest in
        let sent : x.acknowledged + x.count ≤ u.highest = k.beside.sent in
        let within : u.highest ≤ segments s.value = k.beside.within in
        let coming : w.coming ≡ cond (ended && eqb b u.highest) Requests (Segments b ended) = ap (λ c. coming_behind c u.highest o) k.beside.filling in
        goes_on s x.crc n b short w low most
        (λ left.
        let missing : (b ≡ u.highest → ended ≡ false) = λ all. lt-leb (length s.value) (7 * u.highest) (omega arith) in
        let some_left : (ended && eqb b u.highest) ≡ false = elim (cases_Bool (eqb b u.highest)) [ inl e ↦ and_left ended (eqb b u.highest) (missing (eqb-true b u.highest e)) | inr e ↦ and_right ended (eqb b u.highest) e ] in
        record { filling = coming ∙ ap (λ t. cond t Requests (Segments b ended)) some_left; sent = omega arith; within = within; some = k.beside.some; long = k.beside.long })
        (λ none_left.
        let last : ended ≡ true = le-leb (length s.value) (7 * u.highest) (omega arith) in
        let all : eqb b u.highest ≡ true = eq-eqb b u.highest (omega arith) in
        coming ∙ ap (λ t. cond (t && eqb b u.highest) Requests (Segments b ended)) last ∙ ap (λ t. cond t Requests (Segments b ended)) all)
        fair.complete fair.abort fair.highest

    acknowledgement_kept : KeepsAt (Some (answer.AcknowledgeBlock a n)) (kept s x a n)
    acknowledgement_kept =
        let w = awaiting.BlockDownload x in
        let o : Option Answer = Some (answer.AcknowledgeBlock a n) in
        let failing = found s w InvalidSequenceNumber in
        let whole = go_on s x.crc n (x.acknowledged + a) x.short in
        let again = go_on s x.crc n (x.acknowledged + a) (x.short + 1) in
        let P : Step → Type 0 = λ p. KeepsAt o p in
        let fail : P failing = fails s w (after_answer u o) InvalidSequenceNumber (lit< tt) (fair_after w o refl k.fair) in
        cond_both (ltb x.count a) failing (cond (eqb a x.count) whole (cond (ltb x.short 8) again failing)) P
        (λ _. fail)
        (λ few. cond_both (eqb a x.count) whole (cond (ltb x.short 8) again failing) P
        (λ _. more_acknowledged x.short (ltb-false x.count a few))
        (λ _. cond_both (ltb x.short 8) again failing P
        (λ _. more_acknowledged (x.short + 1) (ltb-false x.count a few))
        (λ _. fail)))

  acknowledgement : (w : Awaiting) (a n : ℕ) → Near w → KeepsAt (Some (answer.AcknowledgeBlock a n)) (hear_acknowledgement s w a n)
  acknowledgement (awaiting.BlockDownload x) a n k =
      let o : Option Answer = Some (answer.AcknowledgeBlock a n) in
      let w = awaiting.BlockDownload x in
      sized s w (after_answer u o) n (kept s x a n) (fair_after w o refl k.fair) (λ low most. acknowledgement_kept x a n k low most)
  acknowledgement w a n k = refused w (Some (answer.AcknowledgeBlock a n)) refl k

  end_answer : (w : Awaiting) → Near w → KeepsAt (Some answer.EndBlockDownload) (hear_end s w)
  end_answer awaiting.EndBlockDownload k = tt
  end_answer w k = refused w (Some answer.EndBlockDownload) refl k

  -- the node's abort: nothing was set
  abort_told : (w : Awaiting) (m : Multiplexor) (c : AbortCode) → Near w → KeepsAt (Some (answer.Abort m c)) (abort_heard s c)
  unfolding abort_heard
  abort_told w m c k =
      let o : Option Answer = Some (answer.Abort m c) in
      ap (λ a. option_map (failure_by (after_answer u o)) (option_or a (abort_taken o))) k.fair.abort
      ∙ ap (λ h. Some (record { code = c; finder = Node; may_be_set = false; segment = h })) (sym k.fair.highest)

  answered_keeps : (w : Awaiting) (a : Answer) → Near w → KeepsAt (Some a) (answered s w a)
  answered_keeps w (answer.InitiateDownload m) k = initiate_download w m k
  answered_keeps w (answer.DownloadSegment r) k = download_segment w r k
  answered_keeps w (answer.InitiateUpload m how) k = initiate_upload w m how k
  answered_keeps w (answer.UploadSegment r x last) k = upload_segment w r x last k
  answered_keeps w (answer.InitiateBlockDownload m c n) k = initiate_block w m c n k
  answered_keeps w (answer.AcknowledgeBlock a n) k = acknowledgement w a n k
  answered_keeps w answer.EndBlockDownload k = end_answer w k
  answered_keeps w (answer.Abort m c) k = abort_told w m c k

  pub read_keeps : (w : Awaiting) (o : Option Answer) → Near w → KeepsAt o (read s w o)
  read_keeps w None k = refused w None refl k
  read_keeps w (Some a) k = answered_keeps w a k
