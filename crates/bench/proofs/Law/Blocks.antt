-- A node takes a segment of a sub-block.
use Rattle.std.proofs.Common.{◌≡◌, ℕ, suc, ◌+◌, ◌-◌, ◌*◌, ◌<◌, ◌≤◌, Bool, true, false, ◌||◌, eqb, List, [], ◌∷◌, ◌++◌, length, take, replicate, Some, sym, refl, ap, ◌∙◌, subst, inl, inr, arith, append_assoc, take-add}
use Rattle.std.proofs.lemmas.Bool.{cond_both, eqb-true, eqb-false, le-ltb, leb-true, leb-false, or_cases, true_from_ne_false}
use Rattle.std.proofs.lemmas.List.{append-nil, length-append, length-take, length-drop, length-replicate, take_at, take_all}
use Rattle.wire.specs.declared.node_number.NodeNumber.{NodeNumber}
use Rattle.sdo.specs.FrameData.{padded}
use Rattle.sdo.specs.Segments.{segment}
use Rattle.sdo.specs.Answers as answer
use Rattle.sdo.specs.BlockRequests as block
use Rattle.sdo.proofs.RoundTrips.{block_requests_read_back}
use Rattle.dictionary.specs.Entries.{Entry}
use Rattle.master.specs.declared.phase.SubBlock.{SubBlock}
use Rattle.master.specs.SubBlocks.{block_segment}
use Rattle.master.specs.States as master
use Rattle.master.specs.Values.{segments, unused, is_last}
use Rattle.master.proofs.SubBlocks.{segment-filled, numbered}
use Rattle.node.specs.declared.reception.Reception.{Reception}
use Rattle.node.specs.Buffers.{full}
use Rattle.node.specs.States.{Activity, BlockDownload}
use Rattle.node.specs.States as node
use Rattle.node.specs.Steps.{Step, keep, pass_over, asked_in_block, interpreted, step}
use Rattle.node.specs.Steps as steps
use Rattle.node.proofs.Turning.{addressed}
use Rattle.bench.proofs.Law.Exchange.{block_order, keeps, keeps_all, Rising, numbers, BlockAsks}
use Rattle.bench.proofs.Law.Outcomes.{BlockServed, says_nothing, ends_sub_block}

-- the front of a value and its next segment, filled up, are a longer front, and zeros where the value ends within it
front_more : (j k zeros : ℕ) (v : List ℕ) → suc j ≡ k → 7 * j ≤ length v → 7 * k - length v ≡ zeros → take (7 * j) v ++ padded 7 (segment k v) ≡ take (7 * k) v ++ replicate zeros 0
front_more j k zeros v e h z =
    let s = segment (suc j) v in
    let seven-more : 7 * j + 7 ≡ 7 * suc j = omega arith in
    let filling : 7 - length s ≡ zeros = simp (length-take, length-drop) (omega arith) in
    rw (← e, filling)
    (sym (append_assoc (take (7 * j) v) s (replicate zeros 0)) ∙ ap (λ f. f ++ replicate zeros 0) (sym (take-add (7 * j) 7 v) ∙ ap (λ n. take n v) seven-more))

-- a value and some zeros, without as many bytes at the end, are the value
value_back : (v : List ℕ) (k : ℕ) → take (length (v ++ replicate k 0) - k) (v ++ replicate k 0) ≡ v
value_back v k = take_at v (replicate k 0) (length (v ++ replicate k 0) - k) (simp (length-append, length-replicate) (omega arith))

none_above : (k : ℕ) (ns : List ℕ) → Rising k k ns → ns ≡ []
none_above k [] h = refl
none_above k (n ∷ ns) h = absurd (omega arith)

-- the first number behind one, and those that follow it
next_numbers : (low high n : ℕ) (ns : List ℕ) → low < high → n ∷ ns ≡ numbers low (high - low) → (n ≡ low + 1) × (ns ≡ numbers n (high - n))
next_numbers low high n ns h e =
    let one-more : high - low ≡ suc (high - (low + 1)) = omega arith in
    let split : n ∷ ns ≡ (low + 1) ∷ numbers (low + 1) (high - (low + 1)) = e ∙ ap (numbers low) one-more in
    let first : n ≡ low + 1 = cc in
    (first, rw first cc)

module _ (d : List Entry) (M : master.State) (N : node.State) (x : SubBlock) (n : ℕ) (ns : List ℕ) (lost : Bool) (own : N.number ≡ M.node) (asks : BlockAsks M N.block_size.number x N.activity lost (n ∷ ns)) where
  abbrev nb : ℕ
  nb = N.block_size.number

  abbrev kept : ℕ
  kept = asks.kept

  -- the bytes of the sub-block's first segments and of all before it
  abbrev front : ℕ → List ℕ
  front k = take (7 * (x.acknowledged + k)) M.value

  -- whether this segment is the last of all, and its bytes
  abbrev last : Bool
  last = is_last M.value (x.acknowledged + n)

  abbrev bytes : List ℕ
  bytes = padded 7 (segment (x.acknowledged + n) M.value)

  -- how the node awaits the segment behind some
  abbrev behind : ℕ → Reception
  behind k = record { start = block_order M; expected = k + 1; spoiled = false }

  abbrev Takes : Step → Type 0
  Takes p = BlockServed d M nb x lost ns p

  past : last ≡ true → length M.value ≤ 7 * (x.acknowledged + n)
  past e = leb-true (length M.value) (7 * (x.acknowledged + n)) e

  before : last ≡ false → 7 * (x.acknowledged + n) < length M.value
  before e = leb-false (length M.value) (7 * (x.acknowledged + n)) e

  -- the last segment of all ends the sub-block, and so does the one with the highest number
  at_last : last ≡ true → (n ≡ x.count) × (x.acknowledged + x.count ≡ segments M.value)
  at_last e = (omega (arith, past e), omega (arith, past e))

  at_highest : eqb n nb ≡ true → n ≡ x.count
  at_highest e = omega (arith, eqb-true n nb e)

  none_behind : n ≡ x.count → ns ≡ []
  none_behind e = none_above x.count ns (subst (λ k. Rising k x.count ns) e asks.rising.2)

  -- equal numbers are acknowledged alike
  answers : {j k : ℕ} → j ≡ k → Some (answer.AcknowledgeBlock j nb) ≡ Some (answer.AcknowledgeBlock k nb)
  answers e = ap (λ k. Some (answer.AcknowledgeBlock k nb)) e

  module _ (next : n ≡ kept + 1) where
    longer : (zeros : ℕ) → 7 * (x.acknowledged + n) - length M.value ≡ zeros → front kept ++ bytes ≡ front n ++ replicate zeros 0
    longer zeros e = front_more (x.acknowledged + kept) (x.acknowledged + n) zeros M.value (omega arith) (omega arith) e

    by_seven : last ≡ false → front kept ++ bytes ≡ front n
    by_seven e = longer 0 (omega (arith, before e)) ∙ append-nil (front n)

    to_the_end : last ≡ true → let w = front kept ++ bytes in take (length w - unused M.value) w ≡ M.value
    to_the_end e =
        let whole = longer (unused M.value) (omega (arith, past e)) ∙ ap (λ f. f ++ replicate (unused M.value) 0) (take_all (7 * (x.acknowledged + n)) M.value (past e)) in
        rw whole (value_back M.value (unused M.value))

    -- the segment that is awaited is kept
    taken : Takes (keep nb (block_order M) last n (front kept ++ bytes))
    taken =
        cond_both last _ _ Takes
        (λ e.
        let whole = at_last e in
        ends_sub_block (answer.AcknowledgeBlock x.count nb) (none_behind whole.0) (answers whole.0) refl (keeps_all lost x _ asks.sent whole.1 (to_the_end e)))
        (λ e. cond_both (eqb n nb) _ _ Takes
        (λ f. ends_sub_block (answer.AcknowledgeBlock n nb) (none_behind (at_highest f)) refl refl (rw (by_seven e) (keeps lost x n asks.sent asks.rising.1 (λ less. absurd (omega (arith, at_highest f))) (omega (arith, before e)))))
        (λ f.
        let wanting : n < x.count = elim asks.sent.ends [ inl h ↦ omega (arith, eqb-false n nb f) | inr h ↦ omega (arith, before e) ] in
        let activity = ap (BlockDownload (behind n)) (by_seven e) in
        let clear = λ (none : lost ≡ false). (next_numbers kept x.count n ns asks.wanting (asks.clear none)).1 in
        says_nothing refl refl (record { sent = asks.sent; kept = n; passed = n; wanting = wanting; up = omega arith; activity = activity; rising = asks.rising.2; clear = clear })))

  -- another one is passed over: a segment before it was lost
  passed_over : (n ≡ kept + 1 → ⊥) → Takes (pass_over nb (behind kept) (front kept) last n)
  passed_over other =
      let gone = true_from_ne_false lost (λ none. other (next_numbers kept x.count n ns asks.wanting (asks.clear none)).0) in
      cond_both (last || eqb n nb) _ _ Takes
      (λ e.
      let same : n ≡ x.count = elim (or_cases last (eqb n nb) e) [ inl f ↦ (at_last f).0 | inr f ↦ at_highest f ] in
      ends_sub_block (answer.AcknowledgeBlock kept nb) (none_behind same) (answers (omega arith)) refl (keeps lost x kept asks.sent (omega arith) (λ less. gone) (omega arith)))
      (λ e. says_nothing refl refl (record { sent = asks.sent; kept = kept; passed = n; wanting = asks.wanting; up = omega arith; activity = refl; rising = asks.rising.2; clear = λ none. cc }))

  it_reads : step d N (Some (block_segment M.node M.value x.acknowledged n)) ≡ steps.block_segment nb (behind kept) (front kept) last n bytes
  unfolding step
  it_reads =
      let f = block_segment M.node M.value x.acknowledged n in
      let fits = numbered last n (omega arith) (omega arith) in
      sym (addressed d N f (ap (λ (m : NodeNumber). 0x600 + m.number) (sym own)))
      ∙ ap (λ (t : Activity). interpreted d nb t f.bytes) asks.activity
      ∙ ap (asked_in_block nb (behind kept) (front kept)) (block_requests_read_back (block.Segment last n bytes) (fits, segment-filled (x.acknowledged + n) M.value))

  -- there is room for it
  not_full : full (front kept) ≡ false
  not_full = le-ltb 1029 (length (front kept) + 7) (simp length-take (omega arith))

  pub serve_block : BlockServed d M N.block_size.number x lost ns (step d N (Some (block_segment M.node M.value x.acknowledged n)))
  serve_block = rw it_reads (cond_both (eqb n (kept + 1)) _ _ Takes (λ e. rw not_full (taken (eqb-true n (kept + 1) e))) (λ e. passed_over (eqb-false n (kept + 1) e)))
