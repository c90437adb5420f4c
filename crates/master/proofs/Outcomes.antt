-- What a frame can come to, told once for all laws.
use Rattle.std.proofs.Common.{◌≡◌, ℕ, ◌+◌, ◌-◌, ◌*◌, ◌<◌, ◌≤◌, min, Bool, true, false, cond, eqb, ltb, leb, List, [], ◌++◌, length, Some, None, Ok, Err, Option, Result, refl, arith}
use native.Mathlib.Nat.{min-le_left, min-le_right, le-min}
use Rattle.std.proofs.lemmas.Bool.{cond_both, eqb-true, eqb-false, ltb-true, ltb-false, leb-true, leb-false, and_parts}
use Rattle.wire.specs.declared.frame.Frame.{Frame}
use Rattle.wire.specs.declared.multiplexor.Multiplexor.{Multiplexor}
use Rattle.wire.specs.declared.abort_code.AbortCode.{AbortCode}
use Rattle.wire.specs.declared.abort_code.AbortCode.TheVariants.{UnknownCommand, ToggleNotAlternated, LengthMismatch, OutOfMemory, TimedOut, InvalidBlockSize, InvalidSequenceNumber}
use Rattle.wire.specs.Multiplexors.{same}
use Rattle.wire.specs.Frames.{answer_identifier}
use Rattle.sdo.specs.declared.crc_offer.CrcOffer.{CrcOffer}
use Rattle.sdo.proofs.Comparing.{equal_toggles, as_announced}
use Rattle.sdo.specs.declared.toggle.Toggle.{Toggle}
use Rattle.sdo.specs.declared.toggle.Toggle.TheVariants.{Zero}
use Rattle.sdo.specs.Segments.{differs, other, same_toggle}
use Rattle.sdo.specs.Transfers.{Transfer, Expedited, Segmented}
use Rattle.sdo.specs.Requests.{Request}
use Rattle.sdo.specs.Answers.{Answer, answer_in}
use Rattle.sdo.specs.Answers as answer
use Rattle.master.specs.declared.heard.Heard.{Heard}
use Rattle.master.specs.declared.heard.Heard.TheVariants as heard
use Rattle.master.specs.declared.phase.Phase.TheVariants.{Idle, Open, Over}
use Rattle.master.specs.declared.phase.Awaiting.{Awaiting}
use Rattle.master.specs.declared.phase.Awaiting.TheVariants as awaiting
use Rattle.master.specs.declared.phase.SubBlock.{SubBlock}
use Rattle.master.specs.declared.phase.Aborted.{Aborted}
use Rattle.master.specs.declared.refusal.BeginRefusal.{BeginRefusal}
use Rattle.master.specs.Values.{segments, is_last, may_come, is_block_size}
use Rattle.master.specs.States.{State, in_phase}
use Rattle.master.specs.SubBlocks.{sub_block_of}
use Rattle.master.specs.Steps.{Step, found, unexpected, abort_heard, done, unmoved, send, send_segment, ask_segment, send_sub_block, send_end, go_on, block_started, kept, segment_taken, upload_started, read_whole, read_on, started, toggled, hear_initiate_download, hear_download_segment, hear_initiate_upload, hear_upload_segment, hear_initiate_block, hear_acknowledgement, hear_end, answered, read, hear_open, hear_in, parting, abandoned, hear}
use Rattle.master.specs.Calls.{Order, Started, Ticking, opened, starting, begin_if, counted}
use Rattle.master.specs.Runs.{started_frames, accepted}
use Rattle.master.specs.Laws.{ReadWhole, Finishes, written_at_once, last_taken, read_at_once, last_given, block_closed}
use Rattle.master.proofs.SubBlocks.{sub_block-length}

-- a state by its phase
pub by_phase : (P : State → Type 0) → ((s : State) → P (in_phase Idle s)) → ((w : Awaiting) (s : State) → P (in_phase (Open w) s)) → ((e : Result (Unit {0}) Aborted) (s : State) → P (in_phase (Over e) s)) → (s : State) → P s
by_phase P i o v s = elim s.phase as (λ p. P (in_phase p s)) [ Idle ↦ i s | Open w ↦ o w s | Over e ↦ v e s ]

-- what a write awaits; a sub-block has at most 127 segments
abbrev pub Writes : Awaiting → Type 0
Writes awaiting.InitiateUpload = ⊥
Writes (awaiting.UploadSegment t size) = ⊥
Writes (awaiting.BlockDownload x) = x.count ≤ 127
Writes w = Unit {0}

-- how many frames a write can still send: each segment once, up to 127 again for each sub-block that may fall short, an end and an abort
abbrev pub room : List ℕ → Awaiting → ℕ
room v awaiting.InitiateDownload = segments v + 2
room v (awaiting.DownloadSegment t k) = segments v - k + 1
room v awaiting.InitiateBlockDownload = segments v + 9 * 127 + 2
room v (awaiting.BlockDownload x) = segments v - (x.acknowledged + x.count) + (9 - x.short) * 127 + 2
room v w = 1

pub record Paid (s : State) (w u : Awaiting) (v : List ℕ) (fs : List Frame) : Type 0 where
  pub same-value : v ≡ s.value
  pub writes : Writes u
  pub pays : length fs + room s.value u ≤ room s.value w

-- what an answer can come to in an open transfer
pub data Outcome (s : State) (w : Awaiting) (o : Option Answer) : Step → Type 0 where
  goes_on : (u : Awaiting) (h : ℕ) (v : List ℕ) (fs : List Frame) → 1 ≤ length fs → (Writes w → Paid s w u v fs) → Outcome s w o (send s u h v fs)
  ended : (c : AbortCode) → Outcome s w o (found s w c)
  was_told : (c : AbortCode) → Outcome s w o (abort_heard s c)
  succeeded : (a : Answer) (v : List ℕ) → o ≡ Some a → Finishes s w a v → Outcome s w o (done s v)

module _ (s : State) where
  started_outcome : (w : Awaiting) (m : Multiplexor) (o : Option Answer) (p : Step) → (same m s.multiplexor ≡ true → Outcome s w o p) → Outcome s w o (started s w m p)
  started_outcome w m o p h = cond_both (same m s.multiplexor) p (unexpected s w) (λ q. Outcome s w o q) h (λ _. ended UnknownCommand)

  toggled_outcome : (w : Awaiting) (t u : Toggle) (o : Option Answer) (p : Step) → (t ≡ u → Outcome s w o p) → Outcome s w o (toggled s w t u p)
  toggled_outcome w t u o p h = cond_both (same_toggle t u) p (found s w ToggleNotAlternated) (λ q. Outcome s w o q) (λ e. h (equal_toggles t u e)) (λ _. ended ToggleNotAlternated)

  -- what is left pays for the next sub-block, or for the end
  go_on_outcome : (w : Awaiting) (o : Option Answer) (c : CrcOffer) (n b short : ℕ) → 1 ≤ n → n ≤ 127 → (Writes w → segments s.value - b + (9 - short) * 127 + 2 ≤ room s.value w) → Outcome s w o (go_on s c n b short)
  go_on_outcome w o c n b short low high budget =
      let left = segments s.value - b in
      let count = min n left in
      cond_both (leb (segments s.value) b) (send_end s c) (send_sub_block s c b count short) (λ q. Outcome s w o q)
      (λ _. goes_on _ _ _ _ (omega arith) (λ k. record { same-value = refl; writes = tt; pays = omega (arith, budget k) }))
      (λ e.
      let behind : b < segments s.value = leb-false (segments s.value) b e in
      let size : length (sub_block_of s.node s.value b count) ≡ count = sub_block-length s.node s.value b 1 count in
      let some_left : 1 ≤ left = omega arith in
      let some : 1 ≤ count = le-min low some_left in
      goes_on _ _ _ _ (omega arith) (λ k. record { same-value = refl; writes = omega (arith, min-le_left n left); pays = omega (arith, budget k, min-le_right n left) }))

  sized : (w : Awaiting) (o : Option Answer) (n : ℕ) (p : Step) → (1 ≤ n → n ≤ 127 → Outcome s w o p) → Outcome s w o (cond (is_block_size n) p (found s w InvalidBlockSize))
  sized w o n p h =
      cond_both (is_block_size n) p (found s w InvalidBlockSize) (λ q. Outcome s w o q)
      (λ e. h (leb-true 1 n (and_parts (leb 1 n) (leb n 127) e).0) (leb-true n 127 (and_parts (leb 1 n) (leb n 127) e).1))
      (λ _. ended InvalidBlockSize)

  kept_outcome : (o : Option Answer) (x : SubBlock) (a n : ℕ) → 1 ≤ n → n ≤ 127 → Outcome s (awaiting.BlockDownload x) o (kept s x a n)
  kept_outcome o x a n low high =
      let w = awaiting.BlockDownload x in
      let failing = found s w InvalidSequenceNumber in
      let whole = go_on s x.crc n (x.acknowledged + a) x.short in
      let again = go_on s x.crc n (x.acknowledged + a) (x.short + 1) in
      cond_both (ltb x.count a) failing (cond (eqb a x.count) whole (cond (ltb x.short 8) again failing)) (λ q. Outcome s w o q)
      (λ _. ended InvalidSequenceNumber)
      (λ few. cond_both (eqb a x.count) whole (cond (ltb x.short 8) again failing) (λ q. Outcome s w o q)
      (λ e. go_on_outcome w o x.crc n (x.acknowledged + a) x.short low high (λ _. omega (arith, eqb-true a x.count e)))
      (λ ne. cond_both (ltb x.short 8) again failing (λ q. Outcome s w o q)
      (λ lt.
      let fewer : a < x.count = omega (arith, ltb-false x.count a few, eqb-false a x.count ne) in
      let eight : x.short < 8 = ltb-true x.short 8 lt in
      go_on_outcome w o x.crc n (x.acknowledged + a) (x.short + 1) low high (λ small. omega arith))
      (λ _. ended InvalidSequenceNumber)))

  initiate_download : (w : Awaiting) (m : Multiplexor) → Outcome s w (Some (answer.InitiateDownload m)) (hear_initiate_download s w m)
  initiate_download awaiting.ExpeditedDownload m = started_outcome awaiting.ExpeditedDownload m _ (done s s.value) (λ e. succeeded (answer.InitiateDownload m) s.value refl (written_at_once m e))
  initiate_download awaiting.InitiateDownload m = started_outcome awaiting.InitiateDownload m _ (send_segment s Zero 1) (λ _. goes_on _ _ _ _ (omega arith) (λ _. record { same-value = refl; writes = tt; pays = omega arith }))
  initiate_download w m = ended UnknownCommand

  segment_outcome : (t u : Toggle) (k : ℕ) → t ≡ u → Outcome s (awaiting.DownloadSegment t k) (Some (answer.DownloadSegment u)) (segment_taken s t k)
  segment_outcome t u k same_bit =
      cond_both (is_last s.value k) (done s s.value) (send_segment s (other t) (k + 1)) (λ q. Outcome s (awaiting.DownloadSegment t k) (Some (answer.DownloadSegment u)) q)
      (λ e. succeeded (answer.DownloadSegment u) s.value refl (last_taken t u k same_bit e))
      (λ e.
      let longer : 7 * k < length s.value = leb-false (length s.value) (7 * k) e in
      goes_on _ _ _ _ (omega arith) (λ _. record { same-value = refl; writes = tt; pays = omega arith }))

  download_segment : (w : Awaiting) (u : Toggle) → Outcome s w (Some (answer.DownloadSegment u)) (hear_download_segment s w u)
  download_segment (awaiting.DownloadSegment t k) u = toggled_outcome (awaiting.DownloadSegment t k) t u _ (segment_taken s t k) (λ e. segment_outcome t u k e)
  download_segment w u = ended UnknownCommand

  upload_outcome : (m : Multiplexor) (how : Transfer) → same m s.multiplexor ≡ true → Outcome s awaiting.InitiateUpload (Some (answer.InitiateUpload m how)) (upload_started s awaiting.InitiateUpload how)
  upload_outcome m (Expedited v) e = succeeded (answer.InitiateUpload m (Expedited v)) v refl (read_at_once m v e)
  upload_outcome m (Segmented size) e =
      cond_both (may_come size) (ask_segment s Zero size []) (found s awaiting.InitiateUpload OutOfMemory) (λ q. Outcome s awaiting.InitiateUpload (Some (answer.InitiateUpload m (Segmented size))) q)
      (λ _. goes_on _ _ _ _ (omega arith) (λ no_write. absurd no_write))
      (λ _. ended OutOfMemory)

  initiate_upload : (w : Awaiting) (m : Multiplexor) (how : Transfer) → Outcome s w (Some (answer.InitiateUpload m how)) (hear_initiate_upload s w m how)
  initiate_upload awaiting.InitiateUpload m how = started_outcome awaiting.InitiateUpload m _ (upload_started s awaiting.InitiateUpload how) (λ e. upload_outcome m how e)
  initiate_upload w m how = ended UnknownCommand

  read_outcome : (t u : Toggle) (size : Option ℕ) (x v : List ℕ) (last : Bool) → t ≡ u → v ≡ s.value ++ x → Outcome s (awaiting.UploadSegment t size) (Some (answer.UploadSegment u x last)) (read_on s (awaiting.UploadSegment t size) t size last v)
  read_outcome t u size x v true same_bit joined =
      let w = awaiting.UploadSegment t size in
      let P : Step → Type 0 = λ q. Outcome s w (Some (answer.UploadSegment u x true)) q in
      cond_both (ltb 1024 (length v)) (found s w OutOfMemory) (read_whole s w size v) P
      (λ _. ended OutOfMemory)
      (λ high. cond_both (ltb (length v) 1) (found s w OutOfMemory) (cond (differs size (length v)) (found s w LengthMismatch) (done s v)) P
      (λ _. ended OutOfMemory)
      (λ low. cond_both (differs size (length v)) (found s w LengthMismatch) (done s v) P
      (λ _. ended LengthMismatch)
      (λ e.
      let whole : ReadWhole size v = record { some = ltb-false (length v) 1 low; no_more = ltb-false 1024 (length v) high; announced = as_announced size (length v) e } in
      succeeded (answer.UploadSegment u x true) v refl (last_given t u size x v same_bit joined whole))))
  read_outcome t u size x v false same_bit joined =
      let w = awaiting.UploadSegment t size in
      cond_both (ltb 1024 (length v)) (found s w OutOfMemory) (ask_segment s (other t) size v) (λ q. Outcome s w (Some (answer.UploadSegment u x false)) q)
      (λ _. ended OutOfMemory)
      (λ _. goes_on _ _ _ _ (omega arith) (λ no_write. absurd no_write))

  upload_segment : (w : Awaiting) (u : Toggle) (x : List ℕ) (last : Bool) → Outcome s w (Some (answer.UploadSegment u x last)) (hear_upload_segment s w u x last)
  upload_segment (awaiting.UploadSegment t size) u x last = toggled_outcome (awaiting.UploadSegment t size) t u _ (read_on s (awaiting.UploadSegment t size) t size last (s.value ++ x)) (λ e. read_outcome t u size x (s.value ++ x) last e refl)
  upload_segment w u x last = ended UnknownCommand

  initiate_block : (w : Awaiting) (m : Multiplexor) (c : CrcOffer) (n : ℕ) → Outcome s w (Some (answer.InitiateBlockDownload m c n)) (hear_initiate_block s w m c n)
  initiate_block awaiting.InitiateBlockDownload m c n = started_outcome awaiting.InitiateBlockDownload m _ (block_started s awaiting.InitiateBlockDownload c n) (λ _. sized awaiting.InitiateBlockDownload _ n (go_on s c n 0 0) (λ low high. go_on_outcome awaiting.InitiateBlockDownload _ c n 0 0 low high (λ _. omega arith)))
  initiate_block w m c n = ended UnknownCommand

  acknowledgement : (w : Awaiting) (a n : ℕ) → Outcome s w (Some (answer.AcknowledgeBlock a n)) (hear_acknowledgement s w a n)
  acknowledgement (awaiting.BlockDownload x) a n = sized (awaiting.BlockDownload x) _ n (kept s x a n) (λ low high. kept_outcome _ x a n low high)
  acknowledgement w a n = ended UnknownCommand

  end_answer : (w : Awaiting) → Outcome s w (Some answer.EndBlockDownload) (hear_end s w)
  end_answer awaiting.EndBlockDownload = succeeded answer.EndBlockDownload s.value refl block_closed
  end_answer w = ended UnknownCommand

  answered_outcome : (w : Awaiting) (a : Answer) → Outcome s w (Some a) (answered s w a)
  answered_outcome w (answer.InitiateDownload m) = initiate_download w m
  answered_outcome w (answer.DownloadSegment u) = download_segment w u
  answered_outcome w (answer.InitiateUpload m how) = initiate_upload w m how
  answered_outcome w (answer.UploadSegment u x last) = upload_segment w u x last
  answered_outcome w (answer.InitiateBlockDownload m c n) = initiate_block w m c n
  answered_outcome w (answer.AcknowledgeBlock a n) = acknowledgement w a n
  answered_outcome w answer.EndBlockDownload = end_answer w
  answered_outcome w (answer.Abort m c) = was_told c

  bytes_outcome : (w : Awaiting) (o : Option Answer) → Outcome s w o (read s w o)
  bytes_outcome w None = ended UnknownCommand
  bytes_outcome w (Some a) = answered_outcome w a

-- what a frame can come to: nothing, or an answer of the node does in an open transfer
pub data HeardAs (s : State) (f : Option Frame) : Step → Type 0 where
  stays : (h : Heard) → (h ≡ heard.Over → ⊥) → (h ≡ heard.Sent → ⊥) → HeardAs s f (unmoved s h)
  answers : {p : Step} (w : Awaiting) (g : Frame) → s.phase ≡ Open w → f ≡ Some g → g.identifier.number ≡ (answer_identifier s.node).number → Outcome s w (answer_in g.bytes) p → HeardAs s f p

nothing : (s : State) (f : Option Frame) → HeardAs s f (unmoved s heard.NothingWaited)
nothing s f = stays heard.NothingWaited (λ e. cc) (λ e. cc)

dropped : (s : State) (f : Option Frame) → HeardAs s f (unmoved s heard.Dropped)
dropped s f = stays heard.Dropped (λ e. cc) (λ e. cc)

heard_open : (w : Awaiting) (s : State) (g : Frame) → s.phase ≡ Open w → HeardAs s (Some g) (hear_open s w g)
heard_open w s g own =
    cond_both (eqb g.identifier.number (answer_identifier s.node).number) (read s w (answer_in g.bytes)) (unmoved s heard.Dropped) (λ q. HeardAs s (Some g) q)
    (λ e. answers w g own refl (eqb-true g.identifier.number (answer_identifier s.node).number e) (bytes_outcome s w (answer_in g.bytes)))
    (λ _. dropped s (Some g))

pub hear_outcome : (s : State) (f : Option Frame) → HeardAs s f (hear s f)
unfolding hear
hear_outcome s None = nothing s None
hear_outcome s (Some g) =
    by_phase (λ t. HeardAs t (Some g) (hear_in t t.phase g))
    (λ t. dropped (in_phase Idle t) (Some g))
    (λ w t. heard_open w (in_phase (Open w) t) g refl)
    (λ e t. dropped (in_phase (Over e) t) (Some g))
    s

-- a begin that was accepted, and one that was refused
pub accepted_as : (r : Result (Unit {0}) BeginRefusal) (q : Result Request BeginRefusal) (s : State) (m : Multiplexor) (o : Order) (x : Started) → (begin_if r q s m o).answer ≡ Ok x → (y : Request) × (((begin_if r q s m o).next ≡ opened s m o) × ((x ≡ starting s y) × (q ≡ Ok y)))
accepted_as (Err e) q s m o x said = cc
accepted_as (Ok u) (Err e) s m o x said = cc
accepted_as (Ok u) (Ok y) s m o x said = (y, (refl, (cc, refl)))

pub refused_as : (r : Result (Unit {0}) BeginRefusal) (q : Result Request BeginRefusal) (s : State) (m : Multiplexor) (o : Order) → accepted (begin_if r q s m o).answer ≡ false → ((begin_if r q s m o).next ≡ s) × (started_frames (begin_if r q s m o).answer ≡ [])
refused_as (Err e) q s m o no_start = (refl, refl)
refused_as (Ok u) (Err e) s m o no_start = (refl, refl)
refused_as (Ok u) (Ok y) s m o no_start = cc

-- the two ways of a tick in an open transfer
abbrev pub waits_on : Awaiting → State → Ticking
waits_on w u = record { next = counted (u.ticks + 1) u.rest (in_phase (Open w) u); ended = false; sending = record { quiet = false; frames = [] } }

abbrev pub waits_out : Awaiting → State → Ticking
waits_out w u = record { next = abandoned w TimedOut (in_phase (Open w) u); ended = true; sending = parting TimedOut (in_phase (Open w) u) }
