use Rattle.bench.proofs.Held.{hear_holds}
use Rattle.bench.proofs.session.Session.hear.Goals as goal

pub invariant_of-self : goal.invariant_of-self
invariant_of-self g c = record { own = hear_holds _ _ _ c.args.self.now.own c.hear.ensures.after }
