-- What of the frames that are sent arrives.
use Rattle.std.proofs.Common.{◌≡◌, ℕ, zero, suc, ◌+◌, ◌-◌, ◌<◌, ◌≤◌, Bool, true, false, ◌⊎◌, inl, inr, List, [], ◌∷◌, ◌++◌, map, sym, refl, ap, ◌∙◌, subst, arith, append_assoc}
use Rattle.std.proofs.lemmas.Bool.{true_from_ne_false}
use Rattle.std.proofs.lemmas.List.{append-nil}
use Rattle.wire.specs.declared.frame.Frame.{Frame}
use Rattle.wire.specs.declared.node_number.NodeNumber.{NodeNumber}
use Rattle.line.specs.declared.end.End.TheVariants.{Node}
use Rattle.line.specs.Meanings.{Meaning, sent, quieted, following}
use Rattle.master.specs.declared.phase.SubBlock.{SubBlock}
use Rattle.master.specs.SubBlocks.{block_segment, sub_block_from, sub_block_of}
use Rattle.master.specs.States as master
use Rattle.node.specs.States.{Activity}
use Rattle.bench.specs.Model.Lines.{first_lost, sent_all, carried}
use Rattle.bench.proofs.Law.Exchange.{Rising, numbers, BlockAsks}

-- at most one frame waits, for the node
abbrev pub AtMost : Frame → Meaning → Type 0
AtMost f m = ((m.to_node ≡ []) ⊎ (m.to_node ≡ f ∷ [])) × (m.to_master ≡ [])

alone : (f : Frame) (lost : Bool) → AtMost f (sent Node f lost quieted)
alone f true = (inl refl, refl)
alone f false = (inr refl, refl)

pub sent_alone : (f : Frame) (ls : List Bool) (m : Meaning) → AtMost f (carried (record { quiet = true; frames = f ∷ [] }) ls m)
sent_alone f ls m = alone f (first_lost ls)

module _ (n : NodeNumber) (v : List ℕ) (b : ℕ) where
  -- on a line m, where some frames wait for the node, some segments are sent, from one number to another, which makes of it the line p:
  -- those with some numbers arrive, and all where none was lost
  pub record Arrives (low high count : ℕ) (front : List Frame) (m p : Meaning) : Type 0 where
    pub ns : List ℕ
    pub rising : Rising low high ns
    pub to_node : p.to_node ≡ front ++ map (block_segment n v b) ns
    pub to_master : p.to_master ≡ m.to_master
    pub all : p.lost ≡ false → (ns ≡ numbers low count) × (m.lost ≡ false)

  risen : (low high : ℕ) (ns : List ℕ) → Rising (low + 1) high ns → Rising low high ns
  risen low high [] h = tt
  risen low high (i ∷ ns) h = (omega arith, h.1, h.2)

  one_more : (low high count : ℕ) (lost : Bool) (m p : Meaning) → low + 1 ≤ high → (let sent-one = sent Node (block_segment n v b (low + 1)) lost m in Arrives (low + 1) high count sent-one.to_node sent-one p) → Arrives low high (suc count) m.to_node m p
  one_more low high count true m p h k =
      record { ns = k.ns; rising = risen low high k.ns k.rising; to_node = k.to_node; to_master = k.to_master; all = λ e. let gone = (k.all e).1 in cc }
  one_more low high count false m p h k =
      record {
        ns = (low + 1) ∷ k.ns;
        rising = (omega arith, h, k.rising);
        to_node = k.to_node ∙ append_assoc m.to_node (block_segment n v b (low + 1) ∷ []) (map (block_segment n v b) k.ns);
        to_master = k.to_master;
        all = λ e. (ap (λ ns. (low + 1) ∷ ns) (k.all e).0, (k.all e).1);
      }

  arrive : (low high count : ℕ) (ls : List Bool) (m : Meaning) → low + count ≤ high → Arrives low high count m.to_node m (sent_all Node (sub_block_from n v b (low + 1) count) ls m)
  arrive low high zero ls m h = record { ns = []; rising = tt; to_node = sym (append-nil m.to_node); to_master = refl; all = λ e. (refl, e) }
  arrive low high (suc count) ls m h =
      one_more low high count (first_lost ls) m _ (omega arith) (arrive (low + 1) high count (following ls) (sent Node (block_segment n v b (low + 1)) (first_lost ls) m) (omega arith))

  pub sub_block_arrives : (count : ℕ) (ls : List Bool) (m : Meaning) → m.to_node ≡ [] → Arrives 0 count count [] m (sent_all Node (sub_block_of n v b count) ls m)
  sub_block_arrives count ls m e = subst (λ front. Arrives 0 count count front m (sent_all Node (sub_block_of n v b count) ls m)) e (arrive 0 count count ls m (omega arith))

module _ {n : NodeNumber} {v : List ℕ} {b : ℕ} {m p : Meaning} where
  -- where none arrives some were lost
  pub none_arrives : {low high count : ℕ} {front : List Frame} (k : Arrives n v b low high count front m p) → k.ns ≡ [] → 1 ≤ count → p.lost ≡ true
  none_arrives {count = zero} k e some = absurd (omega arith)
  none_arrives {count = suc count} k e some = true_from_ne_false p.lost (λ kept. let whole = (k.all kept).0 in cc)

  -- those that arrive are still to be taken
  pub still_asks : {M : master.State} {nb : ℕ} {x : SubBlock} {t : Activity} → BlockAsks M nb x t false (numbers 0 x.count) → (k : Arrives n v b 0 x.count x.count [] m p) → BlockAsks M nb x t p.lost k.ns
  still_asks {x = x} asks k =
      let some : x.count ≡ suc (x.count - 1) = omega arith in
      let first : asks.passed < 0 + 1 = (subst (λ c. Rising asks.passed x.count (numbers 0 c)) some asks.rising).0 in
      let none : 0 ≡ asks.passed = omega arith in
      record {
        sent = asks.sent;
        kept = asks.kept;
        passed = asks.passed;
        wanting = asks.wanting;
        up = asks.up;
        activity = asks.activity;
        rising = subst (λ low. Rising low x.count k.ns) none k.rising;
        clear = λ e. (k.all e).0 ∙ asks.clear refl;
      }
