use Rattle.std.proofs.Common.{◌∙◌}
use Rattle.bench.proofs.Held.{settled_holds}
use Rattle.bench.proofs.session.Session.settle.Goals as goal

pub invariant_of-self-in-Ok-1 : goal.invariant_of-self-in-Ok-1
invariant_of-self-in-Ok-1 g c = record { own = c.take.ensures.after ∙ settled_holds _ _ _ _ _ c.in-Ok.ensures.answer c.settle.ensures.after }
