-- What the drop layer makes of the line below it.
use Rattle.std.specs.Prelude.{ℕ, Bool, true, false, ◌||◌}
use Rattle.wire.specs.declared.frame.Frame.{Frame}
use Rattle.line.specs.declared.drop_layer.DropLayer.{DropLayer}
use Rattle.line.specs.declared.end.End.{End}
use Rattle.line.specs.Meanings.{Meaning, sent}

-- a layer that has lost nothing, over a line
abbrev pub fresh_layer : {L : Type 0} → L → ℕ → DropLayer L
fresh_layer line pattern = record { line = line; pattern = pattern; lost = false }

-- a layer's meaning from that of the line below: the same lists, and either mark
abbrev pub layer_shown : {L : Type 0} → (L → Meaning) → DropLayer L → Meaning
layer_shown below d = record (below d.line) { lost = d.lost || (below d.line).lost }

-- what a send makes of the line below: nothing where the frame is dropped, else what that line makes of it
abbrev pub passed : Bool → End → Frame → Bool → Meaning → Meaning
passed true to f lost m = m
passed false to f lost m = sent to f lost m
