-- Frames sent one after the other.
use Rattle.std.proofs.Common.{◌≡◌, Bool, List, [], ◌∷◌, sym, ap, ◌∙◌}
use Rattle.wire.specs.declared.frame.Frame.{Frame}
use Rattle.line.specs.declared.end.End.TheVariants.{Node}
use Rattle.line.specs.Meanings.{Meaning, sent}
use Rattle.bench.specs.Model.Lines.{sent_all}

module _ (all : List Frame) (before : Meaning) where
  -- what comes of the frames that are left comes of all of them
  abbrev pub SentSoFar : List Frame → Meaning → Type 0
  SentSoFar left now = (ls : List Bool) → (ms : List Bool) × (sent_all Node left ls now ≡ sent_all Node all ms before)

  pub one_more_sent : {left others : List Frame} {f : Frame} {now next : Meaning} → left ≡ f ∷ others → (lost : Bool) × (next ≡ sent Node f lost now) → SentSoFar left now → SentSoFar others next
  one_more_sent {left} {others} {f} {now} {next} is step so_far ls =
      let c = so_far (step.0 ∷ ls) in
      (c.0, ap (sent_all Node others ls) step.1 ∙ sym (ap (λ fs. sent_all Node fs (step.0 ∷ ls) now) is) ∙ c.1)

  pub all_sent : {left : List Frame} {now : Meaning} → left ≡ [] → SentSoFar left now → (ms : List Bool) × (now ≡ sent_all Node all ms before)
  all_sent {left} {now} none so_far =
      let c = so_far [] in
      (c.0, sym (ap (λ fs. sent_all Node fs [] now) none) ∙ c.1)
