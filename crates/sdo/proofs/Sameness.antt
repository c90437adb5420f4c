-- The data that frames carry, and segments, are equal exactly where they say the same.
use Rattle.std.proofs.Common.{◌≡◌, ℕ, true, Bool, ◌-◌, ◌++◌, ◌&&◌, eqb, length, take, replicate, sym, ap, ◌∙◌, rules, arith}
use Rattle.std.specs.Prelude.{Decides}
use Rattle.std.specs.Str.{bytes_eq}
use Rattle.std.specs.contracts.prelude.BoolPartialEq.TheImpl.{ghosts as bools}
use Rattle.std.proofs.lemmas.Grind.{common_steps}
use Rattle.std.proofs.lemmas.List.{take-append-drop, length-take-le}
use Rattle.std.proofs.lemmas.Bool.Decides.{Decides-eqb, Decides-and, Decides-like}
use Rattle.std.proofs.lemmas.Slice.Eq.{bytes_eq-Decides}
use Rattle.sdo.specs.declared.frame_data.FrameData.{FrameData}
use Rattle.sdo.specs.declared.segment_frame.Segment.{Segment}
use Rattle.sdo.specs.declared.toggle.Toggle.{Toggle}
use Rattle.sdo.specs.declared.transfer.Transfer.{Transfer}
use Rattle.sdo.specs.declared.transfer.Transfer.TheVariants.{Expedited, Segmented}
use Rattle.sdo.specs.contracts.segment_frame.SegmentPartialEq.TheImpl.{ghosts as segments}
use Rattle.sdo.specs.contracts.toggle.TogglePartialEq.TheImpl.{ghosts as toggles}
use Rattle.sdo.specs.contracts.transfer.TransferPartialEq.TheImpl.{ghosts as transfers}
use Rattle.sdo.specs.FrameData.{value_in, padded}
use Rattle.sdo.specs.Transfers.{shown_transfer}

module _ {least most : ℕ} where
  -- how long the value is that data carries
  carried : (d : FrameData least most) → length (value_in d) ≡ d.len
  carried d = length-take-le d.len d.bytes (search rules)

  -- data is its value, and then zeros
  spelled_out : (d : FrameData least most) → padded most (value_in d) ≡ d.bytes
  spelled_out d =
      ap (λ n. value_in d ++ replicate (most - n) 0) (carried d)
      ∙ ap (λ rest. value_in d ++ rest) (sym d.rest)
      ∙ take-append-drop d.len d.bytes

  pub same_data : (a b : FrameData least most) → Decides (bytes_eq a.bytes b.bytes && eqb a.len b.len) (value_in a ≡ value_in b)
  same_data a b =
      Decides-like (bytes_eq a.bytes b.bytes && eqb a.len b.len)
      (λ e. ap (λ bytes. take a.len bytes) e.0 ∙ ap (λ n. take n b.bytes) e.1)
      (λ e. (sym (spelled_out a) ∙ ap (padded most) e ∙ spelled_out b, sym (carried a) ∙ ap length e ∙ carried b))
      (Decides-and (bytes_eq a.bytes b.bytes) (eqb a.len b.len) (bytes_eq-Decides a.bytes b.bytes) (Decides-eqb a.len b.len))

pub same_transfers : (s t : Transfer) → Decides (transfers.eq s t) (shown_transfer s ≡ shown_transfer t)
same_transfers (Expedited d) (Expedited e) = search (rules, same_data d e, Decides-like)
same_transfers (Expedited d) (Segmented size) = search rules
same_transfers (Segmented size) (Expedited d) = search rules
same_transfers (Segmented size) (Segmented other) = search rules

pub alike_transfers : (s t : Transfer) → transfers.eq s t ≡ true → shown_transfer s ≡ shown_transfer t
alike_transfers s t = (same_transfers s t).0

pub expedited_alike : (d e : FrameData 1 4) → value_in d ≡ value_in e → transfers.eq (Expedited d) (Expedited e) ≡ true
expedited_alike d e = (same_data d e).1

same_toggles : (t u : Toggle) → Decides (toggles.eq t u) (t ≡ u)
same_toggles t u = grind (arith, common_steps)

same_marks : (x y : Bool) → Decides (bools.eq x y) (x ≡ y)
same_marks x y = grind (arith, common_steps)

same_segments : (s t : Segment) → Decides (segments.eq s t) ((s.toggle ≡ t.toggle) × ((value_in s.bytes ≡ value_in t.bytes) × (s.last ≡ t.last)))
same_segments s t = Decides-and _ _ (same_toggles s.toggle t.toggle) (Decides-and _ _ (same_data s.bytes t.bytes) (same_marks s.last t.last))

pub alike_segments : (s t : Segment) → segments.eq s t ≡ true → (s.toggle ≡ t.toggle) × ((value_in s.bytes ≡ value_in t.bytes) × (s.last ≡ t.last))
alike_segments s t = (same_segments s t).0

pub segments_alike : (s t : Segment) → s.toggle ≡ t.toggle → value_in s.bytes ≡ value_in t.bytes → s.last ≡ t.last → segments.eq s t ≡ true
segments_alike s t e f g = (same_segments s t).1 (e, (f, g))
