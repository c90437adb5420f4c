use Rattle.bench.proofs.Held.{tick_holds}
use Rattle.bench.proofs.session.Session.tick.Goals as goal

pub invariant_of-self : goal.invariant_of-self
invariant_of-self g c = record { own = tick_holds _ _ _ c.args.self.now.own c.tick.ensures.after }
