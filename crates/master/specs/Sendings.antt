-- What is done on the line: it is quieted first, or not, and then frames are sent to the node.
use Rattle.std.specs.Prelude.{Bool, false, List, [], ◌∷◌}
use Rattle.wire.specs.declared.frame.Frame.{Frame}
use Rattle.master.specs.declared.frames.Frames.{Frames}
use Rattle.master.specs.declared.frames.Frames.TheVariants as left
use Rattle.master.specs.declared.frames.Segments.{Segments}
use Rattle.master.specs.declared.plan.Batch.{Batch}
use Rattle.master.specs.declared.plan.Batch.TheVariants.{Nothing, One, SubBlock}
use Rattle.master.specs.declared.plan.Plan.{Plan}
use Rattle.master.specs.declared.sending.Sending as declared
use Rattle.master.specs.SubBlocks.{sub_block_from, sub_block_of}
use Rattle.master.specs.States.{State}

pub record Sending : Type 0 where
  pub quiet : Bool
  pub frames : List Frame

abbrev pub silence : Sending
silence = record { quiet = false; frames = [] }

-- the frames that the code hands out
abbrev pub segments_left : Segments → List Frame
segments_left x = sub_block_from x.node x.value.now.items x.acknowledged x.next x.count

abbrev pub shown_frames : Frames → List Frame
shown_frames left.Nothing = []
shown_frames (left.One f) = f ∷ []
shown_frames (left.SubBlock x) = segments_left x

abbrev pub shown_sending : declared.Sending → Sending
shown_sending x = record { quiet = x.quiet; frames = shown_frames x.frames }

-- the frames of a batch, by a master's node and value
abbrev pub batch_frames : State → Batch → List Frame
batch_frames s Nothing = []
batch_frames s (One f) = f ∷ []
batch_frames s (SubBlock b count) = sub_block_of s.node s.value b count.number

abbrev pub planned : State → Plan → Sending
planned s p = record { quiet = p.quiet; frames = batch_frames s p.batch }
