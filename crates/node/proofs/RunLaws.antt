-- In every run the notes agree with the node.
use Rattle.std.proofs.Common.{◌≡◌, ℕ, ◌+◌, ◌-◌, ◌≤◌, Bool, true, false, cond, eqb, ltb, leb, List, [], ◌∷◌, ◌++◌, length, take, Some, None, Option, sym, refl, ap, ◌∙◌, subst, arith, eq-eqb, ne_eqb, eqb-true}
use Rattle.std.proofs.lemmas.Bool.{not-false}
use Rattle.wire.specs.declared.abort_code.AbortCode.{AbortCode}
use Rattle.wire.specs.declared.abort_code.AbortCode.TheVariants.{UnknownCommand, LengthMismatch, ToggleNotAlternated, CrcError}
use Rattle.wire.specs.declared.multiplexor.Multiplexor.{Multiplexor}
use Rattle.wire.specs.declared.frame.Frame.{Frame}
use Rattle.wire.specs.Frames.{request_identifier}
use Rattle.crc.specs.Registers.{crc}
use Rattle.sdo.specs.declared.crc_offer.CrcOffer.{CrcOffer}
use Rattle.sdo.specs.declared.crc_offer.CrcOffer.TheVariants.{Offered, NotOffered}
use Rattle.sdo.specs.declared.toggle.Toggle.{Toggle}
use Rattle.sdo.specs.Answers.{Answer}
use Rattle.sdo.specs.Answers as answer
use Rattle.sdo.specs.BlockRequests.{BlockRequest, block_request_in}
use Rattle.sdo.specs.BlockRequests as block
use Rattle.sdo.specs.Requests.{Request, request_in, completes}
use Rattle.sdo.specs.Requests as request
use Rattle.sdo.specs.FrameData.{fits_expedited}
use Rattle.sdo.specs.Segments.{differs, other, same_toggle}
use Rattle.sdo.specs.Transfers as coming
use Rattle.dictionary.specs.Entries.{Entry}
use Rattle.dictionary.specs.Questions.{value_at}
use Rattle.dictionary.specs.Verdicts.{write_verdict, start_verdict, read_verdict}
use Rattle.node.specs.declared.block_start.BlockStart.{BlockStart}
use Rattle.node.specs.declared.download_start.DownloadStart.{DownloadStart}
use Rattle.node.specs.declared.reception.Reception.{Reception}
use Rattle.node.specs.declared.served.Served.{Served}
use Rattle.node.specs.declared.served.Served.TheVariants.{Aborted, Dropped}
use Rattle.node.specs.Buffers.{full}
use Rattle.node.specs.States.{State, Activity, Idle, Download, Upload, BlockDownload, BlockEnd, is_idle, named}
use Rattle.node.specs.Steps.{Step, Setting, refused, ended, answered, dropped, commit, completed, received, download_segment, crc_differs, upload_segment, block_end, asked, understood, ends, keep, pass_over, spoil, asked_in_block, interpreted, step}
use Rattle.node.specs.Nodes.{timed_out, waited, tick}
use Rattle.node.specs.Runs.{Notes, Nothing, Segments, Block, Whole, noted, noted_start, noted_toggle, extended, to, noted_by, after_request, after_known, acknowledged, after_block, notes_after, notes_by, Scene, Event, Serve, happened, run, past, step_after, carried, announced_size, given_crc, offered, Completes, Says, InTurn, ValuesCarried, TogglesAlternate}
use Rattle.node.specs.Runs as runs
use Rattle.sdo.proofs.Comparing.{equal_toggles, as_announced}
use Rattle.node.proofs.Choosing.{chosen, judged}

-- the notes agree with a transfer
abbrev Agrees : Notes → Activity → Type 0
Agrees w Idle = w ≡ Nothing
Agrees w (Download z u v) = w ≡ Segments z u v
Agrees w (Upload m u v) = w ≡ Nothing
Agrees w (BlockDownload r v) = (1 ≤ r.expected) × (w ≡ Block r.start r.expected v)
Agrees w (BlockEnd b v) = w ≡ Whole b v

-- after a step on a request the notes agree again, a value that is set is the one that the request completes, and a segment that is answered was in turn
record Fair (w : Notes) (q : Request) (p : Step) : Type 0 where
  agrees : Agrees (noted_by p.served (after_request w q) w w) p.next
  whole : (x : Setting) → p.set ≡ Some x → Completes w q x
  turn : (t : Toggle) → p.reply ≡ Some (answer.DownloadSegment t) → InTurn w t q

unset : (x : Setting) (P : Type 0) → ◌≡◌ {A = Option Setting} None (Some x) → P
unset x P e = cc

-- a CRC that is not refused is that of the bytes
as_given : (c : CrcOffer) (k : ℕ) (v : List ℕ) → crc_differs c k v ≡ false → (n : ℕ) → offered c k ≡ Some n → crc v ≡ n
as_given Offered k v e n h = let same : k ≡ crc v = eqb-true k (crc v) (not-false (eqb k (crc v)) e) in cc
as_given NotOffered k v e n h = cc

-- an answer to no segment of a write
abbrev Elsewhere : Option Answer → Type 0
Elsewhere a = (t : Toggle) → a ≡ Some (answer.DownloadSegment t) → ⊥

module _ (w : Notes) (q : Request) where
  refuses : (m : Multiplexor) (c : AbortCode) → Fair w q (refused m c)
  refuses m c = record { agrees = refl; whole = λ x e. unset x _ e; turn = λ t e. cc }

  answers : (t : Activity) (a : Answer) → Agrees (after_request w q) t → Elsewhere (Some a) → Fair w q (answered t a)
  answers t a h other = record { agrees = h; whole = λ x e. unset x _ e; turn = λ u e. absurd (other u e) }

  module _ (d : List Entry) (a : Answer) (turn : (t : Toggle) → Some a ≡ Some (answer.DownloadSegment t) → InTurn w t q) where
    sets : (m : Multiplexor) (v : List ℕ) → Completes w q (to m v) → Fair w q (commit d m v a)
    sets m v h =
        judged (Fair w q) (write_verdict d m v) m (refuses m)
        (record { agrees = refl; whole = λ x e. let same : to m v ≡ x = cc in subst (λ (y : Setting). Completes w q y) same h; turn = turn })

    module _ (z : DownloadStart) (v : List ℕ) (h : ((n : ℕ) → z.size ≡ Some n → length v ≡ n) → Completes w q (to z.multiplexor v)) where
      sized : (x : Bool) → differs z.size (length v) ≡ x → Fair w q (cond x (refused z.multiplexor LengthMismatch) (commit d z.multiplexor v a))
      sized true e = refuses _ _
      sized false e = sets z.multiplexor v (h (as_announced z.size (length v) e))

      ends_by : Fair w q (completed d z v a)
      ends_by = sized (differs z.size (length v)) refl

module _ (d : List Entry) where
  -- a segment of a write, by its toggle
  module _ (z : DownloadStart) (y : Toggle) (v : List ℕ) (u : Toggle) (x : List ℕ) where
    abbrev w : Notes
    w = Segments z y v

    in_turn : same_toggle u y ≡ true → (last : Bool) (t : Toggle) → Some (answer.DownloadSegment u) ≡ Some (answer.DownloadSegment t) → InTurn w t (request.DownloadSegment u x last)
    in_turn e last t h = let same : u ≡ y = equal_toggles u y e in record { bytes = x; last = last; segment = cc; awaited = cc }

    taken : same_toggle u y ≡ true → (last : Bool)
        → Fair w (request.DownloadSegment u x last) (cond last (completed d z (v ++ x) (answer.DownloadSegment u)) (answered (Download z (other u) (v ++ x)) (answer.DownloadSegment u)))
    taken e true = ends_by w _ d (answer.DownloadSegment u) (in_turn e true) z (v ++ x) (λ size. record { whole = refl; last = refl; sized = size; checked = λ k h. cc })
    taken e false =
        record { agrees = ap (λ (t : Toggle). Segments z (other t) (v ++ x)) (sym (equal_toggles u y e)); whole = λ i h. unset i _ h; turn = in_turn e false }

    toggled : (last : Bool) (b : Bool) → same_toggle u y ≡ b → Fair w (request.DownloadSegment u x last) (cond b (received d z u last (v ++ x)) (refused z.multiplexor ToggleNotAlternated))
    toggled last true e = chosen (Fair w (request.DownloadSegment u x last)) (ltb 1024 (length (v ++ x))) (refuses w _ _ _) (taken e last)
    toggled last false e = refuses w _ _ _

  download_fair : (w : Notes) (t : Activity) (u : Toggle) (x : List ℕ) (last : Bool) → Agrees w t → Fair w (request.DownloadSegment u x last) (download_segment d t u x last)
  download_fair w Idle u x last h = refuses w _ _ _
  download_fair w (Download z y v) u x last h =
      subst (λ (k : Notes). Fair k (request.DownloadSegment u x last) (download_segment d (Download z y v) u x last)) (sym h) (toggled z y v u x last (same_toggle u y) refl)
  download_fair w (Upload m y v) u x last h = refuses w _ _ _
  download_fair w (BlockDownload r v) u x last h = refuses w _ _ _
  download_fair w (BlockEnd b v) u x last h = refuses w _ _ _

  upload_fair : (w : Notes) (t : Activity) (u : Toggle) → Fair w (request.UploadSegment u) (upload_segment t u)
  upload_fair w Idle u = refuses w _ _ _
  upload_fair w (Download z y v) u = refuses w _ _ _
  upload_fair w (Upload m y v) u =
      let q = request.UploadSegment u in
      chosen (Fair w q) (same_toggle u y)
      (chosen (Fair w q) (leb (length v) 7) (answers w q _ _ refl (λ t e. cc)) (answers w q _ _ refl (λ t e. cc))) (refuses w q _ _)
  upload_fair w (BlockDownload r v) u = refuses w _ _ _
  upload_fair w (BlockEnd b v) u = refuses w _ _ _

  -- the end of a block write, by its CRC
  module _ (b : BlockStart) (v : List ℕ) (i k : ℕ) where
    abbrev left : List ℕ
    left = take (length v - i) v

    checked : (x : Bool) → crc_differs b.crc k left ≡ x
        → Fair (Whole b v) (request.EndBlockDownload i k) (cond x (refused b.download.multiplexor CrcError) (completed d b.download left answer.EndBlockDownload))
    checked true e = refuses (Whole b v) _ _ _
    checked false e =
        ends_by (Whole b v) _ d answer.EndBlockDownload (λ t h. cc) b.download left
        (λ size. record { whole = refl; last = refl; sized = size; checked = as_given b.crc k left e })

  end_fair : (w : Notes) (t : Activity) (i k : ℕ) → Agrees w t → Fair w (request.EndBlockDownload i k) (block_end d t i k)
  end_fair w Idle i k h = refuses w _ _ _
  end_fair w (Download z y v) i k h = refuses w _ _ _
  end_fair w (Upload m y v) i k h = refuses w _ _ _
  end_fair w (BlockDownload r v) i k h = refuses w _ _ _
  end_fair w (BlockEnd b v) i k h =
      subst (λ (y : Notes). Fair y (request.EndBlockDownload i k) (block_end d (BlockEnd b v) i k)) (sym h) (checked b v i k (crc_differs b.crc k (left b v i k)) refl)

  abort_fair : (w : Notes) (t : Activity) (q : Request) → Agrees w t → Fair w q (cond (is_idle t) (dropped t) ended)
  abort_fair w t q h =
      chosen (Fair w q) (is_idle t) (record { agrees = h; whole = λ x e. unset x _ e; turn = λ u e. cc }) (record { agrees = refl; whole = λ x e. unset x _ e; turn = λ u e. cc })

  -- what a node does with a request
  asked_fair : (n : ℕ) (w : Notes) (t : Activity) (q : Request) → Agrees w t → Fair w q (asked d n t q)
  asked_fair n w t (request.InitiateDownload m (coming.Expedited v)) h =
      sets w _ d (answer.InitiateDownload m) (λ u e. cc) m v (record { whole = refl; last = refl; sized = λ k e. cc; checked = λ k e. cc })
  asked_fair n w t (request.InitiateDownload m (coming.Segmented size)) h = judged (Fair w _) (start_verdict d m size) m (refuses w _ m) (answers w _ _ _ refl (λ u e. cc))
  asked_fair n w t (request.DownloadSegment u x last) h = download_fair w t u x last h
  asked_fair n w t (request.InitiateUpload m) h =
      let q = request.InitiateUpload m in
      judged (Fair w q) (read_verdict d m) m (refuses w q m) (chosen (Fair w q) (fits_expedited (value_at d m)) (answers w q _ _ refl (λ u e. cc)) (answers w q _ _ refl (λ u e. cc)))
  asked_fair n w t (request.UploadSegment u) h = upload_fair w t u
  asked_fair n w t (request.InitiateBlockDownload m c size) h =
      judged (Fair w _) (start_verdict d m size) m (refuses w _ m) (answers w _ _ _ (omega arith, refl) (λ u e. cc))
  asked_fair n w t (request.EndBlockDownload i k) h = end_fair w t i k h
  asked_fair n w t (request.Abort m c) h = abort_fair w t (request.Abort m c) h

-- in block reception nothing is set
record Keeps (b : BlockStart) (s : ℕ) (v : List ℕ) (q : BlockRequest) (p : Step) : Type 0 where
  agrees : Agrees (after_block b s v p.served p.reply q) p.next
  unset : p.set ≡ None
  elsewhere : Elsewhere p.reply

-- the awaited segment is kept: what is acknowledged is its own number
keeps : (n : ℕ) (b : BlockStart) (s : ℕ) (v : List ℕ) (last : Bool) (k : ℕ) (x : List ℕ) → k ≡ s → Keeps b s v (block.Segment last k x) (keep n b last k (v ++ x))
keeps n b s v true k x e = record { agrees = ap (λ y. cond y (Whole b (v ++ x)) (Block b 1 v)) (eq-eqb k s e); unset = refl; elsewhere = λ t h. cc }
keeps n b s v false k x e =
    chosen (Keeps b s v (block.Segment false k x)) (eqb k n)
    (record { agrees = (omega arith, ap (λ y. cond y (Block b 1 (v ++ x)) (Block b 1 v)) (eq-eqb k s e)); unset = refl; elsewhere = λ t h. cc })
    (record { agrees = (omega arith, ap (λ j. Block b (j + 1) (v ++ x)) (sym e)); unset = refl; elsewhere = λ t h. cc })

module _ (n : ℕ) (r : Reception) (v : List ℕ) (some : 1 ≤ r.expected) where
  abbrev b : BlockStart
  b = r.start

  -- one that is passed over: what is acknowledged is another number
  behind : eqb (r.expected - 1) r.expected ≡ false
  behind = ne_eqb (r.expected - 1) r.expected (λ (e : r.expected - 1 ≡ r.expected). omega arith)

  module _ (last : Bool) (k : ℕ) (x : List ℕ) where
    abbrev it : BlockRequest
    it = block.Segment last k x

    spoils : Keeps b r.expected v it (spoil n r v last k)
    spoils =
        chosen (Keeps b r.expected v it) (ends n last k)
        (record { agrees = refl; unset = refl; elsewhere = λ t h. cc }) (record { agrees = (some, refl); unset = refl; elsewhere = λ t h. cc })

    passes : Keeps b r.expected v it (pass_over n r v last k)
    passes =
        chosen (Keeps b r.expected v it) (ends n last k)
        (record { agrees = (omega arith, ap (λ y. cond y (cond last (Whole b (v ++ x)) (Block b 1 (v ++ x))) (Block b 1 v)) behind); unset = refl; elsewhere = λ t h. cc })
        (record { agrees = (some, refl); unset = refl; elsewhere = λ t h. cc })

    sorted : (y : Bool) → eqb k r.expected ≡ y → Keeps b r.expected v it (cond y (cond (full v) (spoil n r v last k) (keep n r.start last k (v ++ x))) (pass_over n r v last k))
    sorted true e = chosen (Keeps b r.expected v it) (full v) spoils (keeps n r.start r.expected v last k x (eqb-true k r.expected e))
    sorted false e = passes

  block_fair : (q : BlockRequest) → Keeps b r.expected v q (asked_in_block n r v q)
  block_fair (block.Segment last k x) = chosen (Keeps b r.expected v (it last k x)) r.spoiled (spoils last k x) (sorted last k x (eqb k r.expected) refl)
  block_fair (block.Abort i c) = record { agrees = refl; unset = refl; elsewhere = λ t h. cc }

-- after a frame the notes agree again, and a value that is set is the one that the frame completes
record Follows (w : Notes) (f : Frame) (p : Step) : Type 0 where
  agrees : Agrees (notes_after w f.bytes p.served p.reply) p.next
  whole : (x : Setting) → p.set ≡ Some x → Says (λ q. Completes w q x) f
  turn : (t : Toggle) → p.reply ≡ Some (answer.DownloadSegment t) → Says (InTurn w t) f

-- notes that are not those of block reception
abbrev Plain : Notes → List ℕ → Type 0
Plain w bytes = (r : Served) (a : Option Answer) → notes_after w bytes r a ≡ after_known w r (request_in bytes)

module _ (d : List Entry) (n : ℕ) (f : Frame) where
  known : (w : Notes) (t : Activity) (o : Option Request) → request_in f.bytes ≡ o → Plain w f.bytes → Agrees w t → Follows w f (understood d n t o)
  known w t None e plain h =
      record {
        agrees = plain Aborted (Some (answer.Abort (named t) UnknownCommand)) ∙ ap (after_known w Aborted) e;
        whole = λ x z. unset x _ z;
        turn = λ u z. cc;
      }
  known w t (Some q) e plain h =
      let p = asked d n t q in
      let fair = asked_fair d n w t q h in
      record {
        agrees = subst (λ (k : Notes). Agrees k p.next) (sym (plain p.served p.reply ∙ ap (after_known w p.served) e)) fair.agrees;
        whole = λ x z. record { message = q; said = e; so = fair.whole x z };
        turn = λ u z. record { message = q; said = e; so = fair.turn u z };
      }

  in_block : (r : Reception) (v : List ℕ) → 1 ≤ r.expected → Follows (Block r.start r.expected v) f (asked_in_block n r v (block_request_in f.bytes))
  in_block r v some =
      let fair = block_fair n r v some (block_request_in f.bytes) in
      record { agrees = fair.agrees; whole = λ x z. unset x _ (sym fair.unset ∙ z); turn = λ t z. absurd (fair.elsewhere t z) }

  interpreted_fair : (w : Notes) (t : Activity) → Agrees w t → Follows w f (interpreted d n t f.bytes)
  interpreted_fair w Idle h = subst (λ (k : Notes). Follows k f (interpreted d n Idle f.bytes)) (sym h) (known Nothing Idle (request_in f.bytes) refl (λ r a. refl) refl)
  interpreted_fair w (Download z u v) h =
      let t = Download z u v in
      subst (λ (k : Notes). Follows k f (interpreted d n t f.bytes)) (sym h) (known (Segments z u v) t (request_in f.bytes) refl (λ r a. refl) refl)
  interpreted_fair w (Upload m u v) h =
      let t = Upload m u v in
      subst (λ (k : Notes). Follows k f (interpreted d n t f.bytes)) (sym h) (known Nothing t (request_in f.bytes) refl (λ r a. refl) refl)
  interpreted_fair w (BlockDownload r v) h = subst (λ (k : Notes). Follows k f (interpreted d n (BlockDownload r v) f.bytes)) (sym h.1) (in_block r v h.0)
  interpreted_fair w (BlockEnd b v) h =
      let t = BlockEnd b v in
      subst (λ (k : Notes). Follows k f (interpreted d n t f.bytes)) (sym h) (known (Whole b v) t (request_in f.bytes) refl (λ r a. refl) refl)

-- a foreign frame changes no notes
known_dropped : (w : Notes) (o : Option Request) → after_known w Dropped o ≡ w
known_dropped w None = refl
known_dropped w (Some q) = refl

block_dropped : (b : BlockStart) (s : ℕ) (v : List ℕ) (q : BlockRequest) → after_block b s v Dropped None q ≡ Block b s v
block_dropped b s v (block.Segment last k x) = refl
block_dropped b s v (block.Abort n c) = refl

same-notes : (w : Notes) (bytes : List ℕ) → notes_after w bytes Dropped None ≡ w
same-notes Nothing bytes = known_dropped Nothing (request_in bytes)
same-notes (Segments z t v) bytes = known_dropped (Segments z t v) (request_in bytes)
same-notes (Block b s v) bytes = block_dropped b s v (block_request_in bytes)
same-notes (Whole b v) bytes = known_dropped (Whole b v) (request_in bytes)

foreign_fair : (w : Notes) (t : Activity) (f : Frame) → Agrees w t → Follows w f (dropped t)
foreign_fair w t f h = record { agrees = subst (λ (k : Notes). Agrees k t) (sym (same-notes w f.bytes)) h; whole = λ x z. unset x _ z; turn = λ u z. cc }

step_fair : (d : List Entry) (s : State) (w : Notes) (f : Frame) → Agrees w s.activity → Follows w f (step d s (Some f))
unfolding step
step_fair d s w f h =
    chosen (Follows w f) (eqb f.identifier.number (request_identifier s.number).number)
    (interpreted_fair d s.block_size.number f w s.activity h) (foreign_fair w s.activity f h)

-- a tick leaves the notes, or ends the transfer
ticked : (x y : Bool) (s : State) (w : Notes) → Agrees w s.activity → (let t = cond x (record { next = s; reply = None }) (cond y (timed_out s) (waited s)) in Agrees (notes_by t.reply w) t.next.activity)
ticked true y s w h = h
ticked false true s w h = refl
ticked false false s w h = h

tick_fair : (s : State) (w : Notes) → Agrees w s.activity → Agrees (notes_by (tick s).reply w) (tick s).next.activity
unfolding tick
tick_fair s w h = ticked _ _ s w h

-- through a whole run
abbrev Good : Scene → Type 0
Good x = Agrees x.notes x.node.activity

event_good : (e : Event) (x : Scene) → Good x → Good (happened e x)
event_good (Serve None) x h = h
event_good (Serve (Some f)) x h = (step_fair x.dictionary x.node x.notes f h).agrees
event_good runs.Tick x h = tick_fair x.node x.notes h

run_good : (es : List Event) (x : Scene) → Good x → Good (run es x)
run_good [] x h = h
run_good (e ∷ es) x h = run_good es (happened e x) (event_good e x h)

starts : (t : Activity) → is_idle t ≡ true → Agrees Nothing t
starts Idle e = refl
starts (Download z u v) e = cc
starts (Upload m u v) e = refl
starts (BlockDownload r v) e = cc
starts (BlockEnd b v) e = cc

-- what follows of the next frame in every run from an idle node
module _ (d : List Entry) (s : State) (idle : is_idle s.activity ≡ true) (es : List Event) (f : Frame) where
  next_fair : Follows (past d s es).notes f (step_after d s es f)
  next_fair =
      let x = past d s es in
      step_fair x.dictionary x.node x.notes f (run_good es (record { dictionary = d; node = s; notes = Nothing }) (starts s.activity idle))

pub values_carried : ValuesCarried
values_carried d s idle es f x h = (next_fair d s idle es f).whole x h

pub toggles_alternate : TogglesAlternate
toggles_alternate d s idle es f t h = (next_fair d s idle es f).turn t h
