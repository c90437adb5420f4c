-- What a line means, and what each call makes of that. It is all that a user of a line may rely on.
use Rattle.std.specs.Prelude.{ℕ, Bool, true, false, List, [], ◌∷◌, ◌++◌, length, Some, None, Option, nat_le}
use Rattle.wire.specs.declared.frame.Frame.{Frame}
use Rattle.line.specs.declared.end.End.{End}
use Rattle.line.specs.declared.end.End.TheVariants.{Master, Node}

-- the frames that wait for each end, the first in first, and whether one was lost since the last quiet
pub record Meaning : Type 0 where
  pub to_node : List Frame
  pub to_master : List Frame
  pub lost : Bool

-- the frames that wait for an end
abbrev pub waiting : End → Meaning → List Frame
waiting Node m = m.to_node
waiting Master m = m.to_master

-- the same line with other frames waiting for an end
abbrev pub with_waiting : End → List Frame → Meaning → Meaning
with_waiting Node fs m = record m { to_node = fs }
with_waiting Master fs m = record m { to_master = fs }

-- some frames and one more: behind all others, or lost
abbrev pub added : {A : Type 0} → A → Bool → List A → List A
added f true fs = fs
added f false fs = fs ++ f ∷ []

-- a frame sent, and lost or not
abbrev pub sent : End → Frame → Bool → Meaning → Meaning
sent to f true m = record m { lost = true }
sent to f false m = with_waiting to (added f false (waiting to m)) m

-- the first of some frames, and those behind it
abbrev pub leading : {A : Type 0} → List A → Option A
leading [] = None
leading (f ∷ fs) = Some f

abbrev pub following : {A : Type 0} → List A → List A
following [] = []
following (f ∷ fs) = fs

-- a frame taken: what is handed out, and what is left
abbrev pub handed_out : End → Meaning → Option Frame
handed_out end m = leading (waiting end m)

abbrev pub taken : End → Meaning → Meaning
taken end m = with_waiting end (following (waiting end m)) m

-- nothing waits, nothing was lost
abbrev pub quieted : Meaning
quieted = record { to_node = []; to_master = []; lost = false }

-- whether as many frames wait as there is room for
abbrev pub full : {A : Type 0} → ℕ → List A → Bool
full room fs = nat_le room (length fs)

-- a frame sent where there is room for some frames each way: lost exactly where all of it is taken
abbrev pub sent_within : ℕ → End → Frame → Meaning → Meaning
sent_within room to f m = sent to f (full room (waiting to m)) m
