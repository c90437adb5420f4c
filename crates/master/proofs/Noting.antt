-- Each frame that the master sends is noted as what it says.
use Rattle.std.proofs.Common.{◌≡◌, ℕ, zero, suc, ◌+◌, ◌*◌, ◌/◌, ◌%◌, ◌<◌, ◌≤◌, max, Bool, ◌||◌, cond, eqb, leb, List, [], ◌∷◌, length, map, Some, None, sym, refl, ap, ◌∙◌, subst, inl, inr, arith}
use Rattle.std.specs.Option.{option_or}
use Rattle.std.proofs.lemmas.Bool.{cases_Bool, eq-eqb, leb-true, leb-false, le-leb, lt-leb}
use Rattle.wire.specs.declared.multiplexor.Multiplexor.{Multiplexor}
use Rattle.wire.specs.declared.node_number.NodeNumber.{NodeNumber}
use Rattle.wire.specs.declared.abort_code.AbortCode.{AbortCode}
use Rattle.sdo.specs.Fields.{abort_bytes, abort_code_in}
use Rattle.sdo.specs.FrameData.{padded}
use Rattle.wire.specs.Frames.{request_identifier}
use Rattle.sdo.specs.Transfers.{Expedited}
use Rattle.sdo.specs.declared.toggle.Toggle.{Toggle}
use Rattle.sdo.specs.declared.toggle.Toggle.TheVariants.{Zero, One}
use Rattle.sdo.specs.Segments.{segment, segment_bytes}
use Rattle.sdo.specs.Blocks.{end_bytes}
use Rattle.sdo.specs.Frames.{request_frame}
use Rattle.sdo.specs.Requests.{Request, request_bytes, request_in, request_of_kind, block_end_in, block_start_in}
use Rattle.sdo.specs.Requests as request
use Rattle.sdo.specs.BlockRequests.{block_request_bytes}
use Rattle.sdo.specs.BlockRequests as block
use Rattle.sdo.proofs.FieldsBack.{segment_kind, last_back}
use Rattle.sdo.proofs.RoundTrips.{block_requests_read_back}
use Rattle.master.specs.declared.phase.Finder.TheVariants.{Master}
use Rattle.master.specs.Values.{is_last}
use Rattle.master.specs.SubBlocks.{block_segment, sub_block_from}
use Rattle.master.specs.Listening.{Coming, Requests, Segments, Notes, after_request, after_block, after_bytes, Sent, noted, notes_on}
use Rattle.master.proofs.SubBlocks.{segment-few, segment-filled, numbered}

module _ (n : NodeNumber) (u : Notes) where
  bytes_read : (bytes : List ℕ) → noted n u (Sent (record { identifier = request_identifier n; bytes = bytes })) ≡ after_bytes u.coming u bytes
  bytes_read bytes = ap (λ t. cond t (after_bytes u.coming u bytes) u) (eq-eqb (0x600 + n.number) (0x600 + n.number) refl)

  pub request_read : (q : Request) → u.coming ≡ Requests → after_request u (request_in (request_bytes q)) ≡ after_request u (Some q) → noted n u (Sent (request_frame n q)) ≡ after_request u (Some q)
  request_read q asking back = bytes_read (request_bytes q) ∙ ap (λ c. after_bytes c u (request_bytes q)) asking ∙ back

-- requests by what is noted of them
module _ (u : Notes) where
  abbrev ReadsBack : Request → Type 0
  ReadsBack q = after_request u (request_in (request_bytes q)) ≡ after_request u (Some q)

  pub start_back : (m : Multiplexor) (v : List ℕ) → 1 ≤ length v → length v ≤ 4 → ReadsBack (request.InitiateDownload m (Expedited v))
  start_back m [] some few = absurd (omega arith)
  start_back m (a ∷ []) some few = refl
  start_back m (a ∷ b ∷ []) some few = refl
  start_back m (a ∷ b ∷ c ∷ []) some few = refl
  start_back m (a ∷ b ∷ c ∷ d ∷ []) some few = refl
  start_back m (a ∷ b ∷ c ∷ d ∷ e ∷ v) some few = absurd (omega arith)

  pub segment_back : (t : Toggle) (k : ℕ) (v : List ℕ) (last : Bool) → ReadsBack (request.DownloadSegment t (segment k v) last)
  segment_back t k v last =
      let x = segment k v in
      let bytes = segment_bytes t x last in
      let noting : Bool → Notes = λ b. record { coming = Requests; highest = u.highest + 1; complete = b || u.complete; abort = option_or u.abort None } in
      ap (λ i. after_request u (request_of_kind i bytes)) (segment_kind t x last (segment-few k v)) ∙ ap noting (last_back t x last (segment-few k v))

  pub asked_back : (t : Toggle) → ReadsBack (request.UploadSegment t)
  asked_back Zero = refl
  asked_back One = refl

  pub end_back : (unused k : ℕ) → unused < 8 → ReadsBack (request.EndBlockDownload unused k)
  end_back unused k few =
      let bytes = end_bytes unused k in
      let kind : (0xc1 + 4 * unused) / 32 ≡ 6 = omega arith in
      let odd : (0xc1 + 4 * unused) % 2 ≡ 1 = omega arith in
      ap (λ i. after_request u (request_of_kind i bytes)) kind ∙ ap (λ i. after_request u (Some (cond (eqb i 1) (block_end_in bytes) (block_start_in bytes)))) odd

-- the notes after the first abort
pub record Aborted (c : AbortCode) (u w : Notes) : Type 0 where
  pub highest : w.highest ≡ u.highest
  pub complete : w.complete ≡ u.complete
  pub abort : w.abort ≡ Some (record { code = c; sender = Master })

-- an abort is read as one whatever comes
module _ (m : Multiplexor) (c : AbortCode) (back : abort_code_in (abort_bytes m c) ≡ c) (u : Notes) (none : u.abort ≡ None) where
  first_abort : option_or u.abort (Some (record { code = abort_code_in (abort_bytes m c); sender = Master })) ≡ Some (record { code = c; sender = Master })
  first_abort =
      ap (λ a. option_or a (Some (record { code = abort_code_in (abort_bytes m c); sender = Master }))) none
      ∙ ap (λ k. Some (record { code = k; sender = Master })) back

  abort_noted : (x : Coming) → Aborted c u (after_bytes x u (request_bytes (request.Abort m c)))
  abort_noted Requests = record { highest = refl; complete = refl; abort = first_abort }
  abort_noted (Segments acknowledged ended) = record { highest = refl; complete = refl; abort = first_abort }

  pub abort_read : (n : NodeNumber) → Aborted c u (noted n u (Sent (request_frame n (request.Abort m c))))
  abort_read n = subst (λ w. Aborted c u w) (sym (bytes_read n u (request_bytes (request.Abort m c)))) (abort_noted u.coming)

-- one of two segments is the last exactly if the later one is
either_last : (l h j : ℕ) → (leb l (7 * j) || leb l (7 * h)) ≡ leb l (7 * max h j)
either_last l h j = elim (cases_Bool (leb l (7 * j))) [
  | inl e ↦ ap (λ x. x || leb l (7 * h)) e ∙ sym (le-leb l (7 * max h j) (omega (arith, leb-true l (7 * j) e)))
  | inr e ↦ ap (λ x. x || leb l (7 * h)) e ∙ elim (cases_Bool (leb l (7 * h))) [
    | inl f ↦ f ∙ sym (le-leb l (7 * max h j) (omega (arith, leb-true l (7 * h) f)))
    | inr f ↦ f ∙ sym (lt-leb l (7 * max h j) (omega (arith, leb-false l (7 * j) e, leb-false l (7 * h) f)))
  ]
]

-- the notes after a sub-block whose next segment would have number k
pub record Filled (v : List ℕ) (b k : ℕ) (u w : Notes) : Type 0 where
  pub coming : w.coming ≡ Segments b (is_last v w.highest)
  pub highest : w.highest + 1 ≡ max (u.highest + 1) (b + k)
  pub complete : w.complete ≡ u.complete
  pub abort : w.abort ≡ u.abort

module _ (n : NodeNumber) (v : List ℕ) (b : ℕ) where
  abbrev with_segment : Notes → ℕ → Notes
  with_segment u k = record u { coming = Segments b (is_last v (max u.highest (b + k))); highest = max u.highest (b + k) }

  block_read : (u : Notes) (k : ℕ) → u.coming ≡ Segments b (is_last v u.highest) → 1 ≤ k → k < 128 → noted n u (Sent (block_segment n v b k)) ≡ with_segment u k
  block_read u k filling some few =
      let last = is_last v (b + k) in
      let q = block.Segment last k (padded 7 (segment (b + k) v)) in
      let noting : Bool → Notes = λ x. record u { coming = Segments b x; highest = max u.highest (b + k) } in
      bytes_read n u (block_request_bytes q)
      ∙ ap (λ c. after_bytes c u (block_request_bytes q)) filling
      ∙ ap (after_block u b (is_last v u.highest)) (block_requests_read_back q (numbered last k some few, segment-filled (b + k) v))
      ∙ ap noting (either_last (length v) u.highest (b + k))

  pub filled : (u : Notes) (k count : ℕ) → u.coming ≡ Segments b (is_last v u.highest) → 1 ≤ k → k + count ≤ 128 → b + k ≤ u.highest + 1 → Filled v b (k + count) u (notes_on n u (map Sent (sub_block_from n v b k count)))
  filled u k zero filling some few near = record { coming = filling; highest = omega arith; complete = refl; abort = refl }
  filled u k (suc count) filling some few near =
      let rest = filled (with_segment u k) (k + 1) count refl (omega arith) (omega arith) (omega arith) in
      subst (λ w. Filled v b (k + suc count) u (notes_on n w (map Sent (sub_block_from n v b (k + 1) count)))) (sym (block_read u k filling some (omega arith)))
      (record { coming = rest.coming; highest = omega (arith, rest.highest); complete = rest.complete; abort = rest.abort })
