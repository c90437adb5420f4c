-- Several frames sent one after the other, each lost or not.
use Rattle.std.specs.Prelude.{Bool, false, cond, List, [], ◌∷◌, Some, None, Option}
use Rattle.wire.specs.declared.frame.Frame.{Frame}
use Rattle.line.specs.declared.end.End.{End}
use Rattle.line.specs.declared.end.End.TheVariants.{Master, Node}
use Rattle.line.specs.Meanings.{Meaning, sent, quieted, following}
use Rattle.master.specs.Sendings.{Sending}

-- what a line loses in a call: of each frame that the master sends, in their order, whether it is lost, and so of the one that the node sends
pub record Losses : Type 0 where
  pub of_master : List Bool
  pub of_node : Bool

-- whether the first of some frames is lost; one of which nothing is said arrives
abbrev pub first_lost : List Bool → Bool
first_lost [] = false
first_lost (l ∷ ls) = l

abbrev pub sent_all : End → List Frame → List Bool → Meaning → Meaning
sent_all to [] ls m = m
sent_all to (f ∷ fs) ls m = sent_all to fs (following ls) (sent to f (first_lost ls) m)

-- what a master wants to be done on the line: it is quieted, or not, and then frames are sent to the node
abbrev pub quieted_if : Bool → Meaning → Meaning
quieted_if quiet m = cond quiet quieted m

abbrev pub carried : Sending → List Bool → Meaning → Meaning
carried x ls m = sent_all Node x.frames ls (quieted_if x.quiet m)

-- what a node sends: one frame, or none
abbrev pub replied : Option Frame → Bool → Meaning → Meaning
replied None lost m = m
replied (Some f) lost m = sent Master f lost m
