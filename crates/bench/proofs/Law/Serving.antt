-- What a node makes of the one request that it has still to take: it answers as the exchange goes.
use Rattle.std.proofs.Common.{◌≡◌, ℕ, suc, ◌+◌, ◌*◌, ◌≤◌, Bool, true, false, leb, List, [], ◌++◌, length, take, Some, None, Option, sym, refl, ap, ◌∙◌, subst, arith, lit<, add-one, take_all, length-take, eq-eqb}
use Rattle.std.proofs.lemmas.Bool.{cond_both, and_parts, le-ltb, leb-true, leb-false}
use Rattle.wire.specs.declared.abort_code.AbortCode.{AbortCode}
use Rattle.sdo.specs.FrameData.{fits_expedited}
use Rattle.sdo.specs.Fits.{Indexed}
use Rattle.crc.specs.Registers.{crc}
use Rattle.crc.proofs.Endings.{after_bytes-below}
use Rattle.sdo.specs.declared.toggle.Toggle.{Toggle}
use Rattle.sdo.specs.declared.toggle.Toggle.TheVariants.{Zero, One}
use Rattle.sdo.specs.Answers.{Answer}
use Rattle.sdo.specs.Answers as answer
use Rattle.sdo.specs.Frames.{request_frame}
use Rattle.sdo.specs.Requests.{Request}
use Rattle.sdo.specs.RoundTrips.{RequestFits}
use Rattle.sdo.specs.Segments.{segment, same_toggle}
use Rattle.sdo.proofs.Joining.{segments-joined}
use Rattle.sdo.proofs.RoundTrips.{requests_read_back}
use Rattle.dictionary.specs.Entries.{Entry, Lawful}
use Rattle.dictionary.specs.Questions.{value_at}
use Rattle.dictionary.specs.Verdicts.{read_verdict, start_verdict, write_verdict}
use Rattle.dictionary.proofs.Starts.{start_decided}
use Rattle.master.specs.declared.phase.Awaiting.{Awaiting}
use Rattle.master.specs.declared.phase.Awaiting.TheVariants as awaiting
use Rattle.master.specs.States as master
use Rattle.master.specs.Values.{is_last}
use Rattle.node.specs.Laws.{in_block}
use Rattle.node.specs.States.{State, Activity, Idle}
use Rattle.node.specs.Steps.{Step, answered, asked, commit, committed, completed, given, next_segment, received, step, unless}
use Rattle.node.proofs.AnswerLaws.{asks}
use Rattle.master.specs.declared.direction.Direction.{Direction}
use Rattle.master.specs.declared.direction.Direction.TheVariants as way
use Rattle.bench.proofs.Law.Exchange.{order_start, verdict, Orderly, Reading, Ready, at_once, in_segments, by_block, one_more, closing, to_read, asking, Replies, refuses, sets_at_once, sets_segments, sets_block, starts, takes, gives_at_once, announces, gives, gives_last, starts_block}
use Rattle.bench.proofs.Law.Judging.{verdict_proper, value_sized}
use Rattle.bench.proofs.Law.Outcomes.{Served}

pub toggle_itself : (t : Toggle) → same_toggle t t ≡ true
toggle_itself Zero = refl
toggle_itself One = refl

-- one segment more of a value's front
front_longer : (j : ℕ) (v : List ℕ) → take (7 * j) v ++ segment (j + 1) v ≡ take (7 * (j + 1)) v
front_longer j v = rw add-one (ap (λ front. front ++ segment (suc j) v) (sym (segments-joined j v)) ∙ segments-joined (suc j) v)

segment_short : (j : ℕ) (v : List ℕ) → length (segment (j + 1) v) ≤ 7
segment_short j v = rw add-one (simp length-take (omega arith))

module _ (d : List Entry) (M : master.State) where
  -- the requests fit their frames, and come while no block segments do
  request_fits : {dir : Direction} {w : Awaiting} {t : Activity} {q : Request} → Indexed M.multiplexor → Ready d M dir w t q → RequestFits q
  request_fits own (at_once some few) = (own, (some, few))
  request_fits own (in_segments o) = (own, omega (arith, o.bounded))
  request_fits own (by_block o) = (own, omega (arith, o.bounded))
  request_fits own (one_more t j o more) = segment_short j M.value
  request_fits own (closing x o whole) = (omega arith, after_bytes-below 0 M.value (lit< tt))
  request_fits own (to_read none low) = own
  request_fits own (asking t rest r) = tt

  no_block : {dir : Direction} {w : Awaiting} {t : Activity} {q : Request} → Ready d M dir w t q → in_block t ≡ false
  no_block (at_once some few) = refl
  no_block (in_segments o) = refl
  no_block (by_block o) = refl
  no_block (one_more t j o more) = refl
  no_block (closing x o whole) = refl
  no_block (to_read none low) = refl
  no_block (asking t rest r) = refl

  module _ (nb : ℕ) (lost : Bool) where
    abbrev Serves : Direction → Awaiting → Step → Type 0
    Serves dir w p = Served d M nb dir w lost p

    serves_answer : (dir : Direction) (w : Awaiting) (t : Activity) (a : Answer) → Replies d M nb dir w t false lost a → Serves dir w (answered t a)
    serves_answer dir w t a h = record { ahead = false; answer = a; replied = refl; set = refl; replies = h }

    -- a verdict stands against a step, or there is none
    serves_unless : (dir : Direction) (w : Awaiting) (o : Option AbortCode) (p : Step) → ((c : AbortCode) → o ≡ Some c → verdict dir d M ≡ Some c) → (o ≡ None → Serves dir w p) → Serves dir w (unless o M.multiplexor p)
    serves_unless dir w None p refusal h = h refl
    serves_unless dir w (Some c) p refusal h =
        let e = refusal c refl in
        record { ahead = false; answer = answer.Abort M.multiplexor c; replied = refl; set = refl; replies = refuses dir w lost c e (verdict_proper dir d M c e) }

    serves_commit : (w : Awaiting) (a : Answer) → (write_verdict d M.multiplexor M.value ≡ None → Replies d M nb way.Download w Idle true lost a) → Serves way.Download w (commit d M.multiplexor M.value a)
    serves_commit w a h =
        serves_unless way.Download w (write_verdict d M.multiplexor M.value) (committed M.multiplexor M.value a) (λ c e. e)
        (λ e. record { ahead = true; answer = a; replied = refl; set = refl; replies = h e })

    -- all bytes are there, as many as were announced
    serves_whole : (w : Awaiting) (a : Answer) → (write_verdict d M.multiplexor M.value ≡ None → Replies d M nb way.Download w Idle true lost a) → Serves way.Download w (completed d (order_start M) M.value a)
    serves_whole w a h = rw (eq-eqb (length M.value) (length M.value) refl) (serves_commit w a h)

    -- the start of a write in segments or by block
    serves_start : (w : Awaiting) (t : Activity) (a : Answer) → Replies d M nb way.Download w t false lost a → Serves way.Download w (unless (start_verdict d M.multiplexor (Some (length M.value))) M.multiplexor (answered t a))
    serves_start w t a h =
        let size = Some (length M.value) in
        serves_unless way.Download w (start_verdict d M.multiplexor size) (answered t a) (λ c e. start_decided d M.multiplexor size c e M.value refl)
        (λ e. serves_answer way.Download w t a h)

    serves_received : (t : Toggle) (j : ℕ) → Orderly M → let k = j + 1 in Serves way.Download (awaiting.DownloadSegment t k) (received d (order_start M) t (is_last M.value k) (take (7 * k) M.value))
    serves_received t j o =
        let k = j + 1 in
        let front = take (7 * k) M.value in
        let w = awaiting.DownloadSegment t k in
        let a = answer.DownloadSegment t in
        let short : length front ≤ 1024 = simp length-take (omega (arith, o.bounded)) in
        rw (le-ltb 1024 (length front) short)
        (cond_both (is_last M.value k) (completed d (order_start M) front a) _ (Serves way.Download w)
        (λ last. let all : front ≡ M.value = take_all (7 * k) M.value (leb-true _ _ last) in rw all (serves_whole w a (sets_segments lost t k last)))
        (λ more. serves_answer way.Download w _ a (takes lost t j o (leb-false _ _ more))))

    serves_given : Lawful d → M.value ≡ [] → M.highest ≡ 0 → read_verdict d M.multiplexor ≡ None → Serves way.Upload awaiting.InitiateUpload (given M.multiplexor (value_at d M.multiplexor))
    serves_given law none low allowed =
        let bounds = value_sized d law M.multiplexor allowed in
        let reading : Reading d M (value_at d M.multiplexor) =
        record { whole = rw none; allowed = allowed; some = bounds.0; bounded = bounds.1; asked = omega arith } in
        cond_both (fits_expedited (value_at d M.multiplexor)) _ _ (Serves way.Upload awaiting.InitiateUpload)
        (λ few. serves_answer way.Upload _ _ _ (gives_at_once lost allowed bounds.0 (leb-true _ _ (and_parts _ _ few).1)))
        (λ more. serves_answer way.Upload _ _ _ (announces lost none low reading))

    serves_next : (t : Toggle) (rest : List ℕ) → Reading d M rest → Serves way.Upload (awaiting.UploadSegment t (Some (length (value_at d M.multiplexor)))) (next_segment M.multiplexor t rest)
    serves_next t rest r =
        cond_both (leb (length rest) 7) _ _ (Serves way.Upload _)
        (λ last. serves_answer way.Upload _ _ _ (gives_last lost t rest r (leb-true _ _ last)))
        (λ more. serves_answer way.Upload _ _ _ (gives lost t rest r (leb-false _ _ more)))

    serves_request : {dir : Direction} {w : Awaiting} {t : Activity} {q : Request} → Lawful d → 1 ≤ nb → nb ≤ 127 → Ready d M dir w t q → Serves dir w (asked d nb t q)
    serves_request law some few (at_once one four) = serves_commit _ _ (sets_at_once lost)
    serves_request law some few (in_segments o) = serves_start _ _ _ (starts lost o)
    serves_request law some few (by_block o) = serves_start _ _ _ (starts_block lost o some few)
    serves_request law some few (one_more t j o more) = rw (toggle_itself t, front_longer j M.value) (serves_received t j o)
    serves_request law some few (closing x o whole) = rw (whole, eq-eqb (crc M.value) (crc M.value) refl) (serves_whole _ _ (sets_block lost))
    serves_request law some few (to_read none low) =
        serves_unless way.Upload _ (read_verdict d M.multiplexor) _ (λ c e. e) (serves_given law none low)
    serves_request law some few (asking t rest r) = rw (toggle_itself t) (serves_next t rest r)

pub serve_ready : (d : List Entry) → Lawful d → (M : master.State) (N : State) (dir : Direction) (w : Awaiting) (q : Request) (lost : Bool) → Indexed M.multiplexor → N.number ≡ M.node → Ready d M dir w N.activity q → Served d M N.block_size.number dir w lost (step d N (Some (request_frame M.node q)))
serve_ready d law M N dir w q lost own same r =
    let f = request_frame M.node q in
    let said = requests_read_back q (request_fits d M own r) in
    let e = asks d N f (Some q) (record { own = ap (λ n. 0x600 + n.number) (sym same); elsewhere = no_block d M r; said = said }) in
    subst (Served d M N.block_size.number dir w lost) (sym e) (serves_request d M N.block_size.number lost law N.block_size.low N.block_size.high r)
