use Rattle.bench.proofs.Held.{serve_holds}
use Rattle.bench.proofs.session.Session.serve.Goals as goal

pub invariant_of-self : goal.invariant_of-self
invariant_of-self g c = record { own = serve_holds _ _ _ c.args.self.now.own c.serve.ensures.after }
