-- What holds of two steps holds of the one that is chosen.
use Rattle.std.proofs.Common.{Bool, true, false, cond, Some, None, Option}
use Rattle.wire.specs.declared.multiplexor.Multiplexor.{Multiplexor}
use Rattle.wire.specs.declared.abort_code.AbortCode.{AbortCode}
use Rattle.node.specs.Steps.{Step, refused, unless}

module _ (P : Step → Type 0) where
  pub chosen : (x : Bool) {p q : Step} → P p → P q → P (cond x p q)
  chosen true h k = h
  chosen false h k = k

  -- a step, and the refusals that a verdict makes of it
  pub judged : (w : Option AbortCode) (m : Multiplexor) {p : Step} → ((c : AbortCode) → P (refused m c)) → P p → P (unless w m p)
  judged None m refusal h = h
  judged (Some c) m refusal h = refusal c
