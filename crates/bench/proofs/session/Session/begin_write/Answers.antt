use Rattle.std.proofs.Common.{Ok, refl, sym, ◌∙◌}
use Rattle.master.specs.Calls.{Write}
use Rattle.bench.proofs.Held.{begin_holds}
use Rattle.bench.proofs.Owning.{none_out}
use Rattle.bench.proofs.session.Session.begin_write.Goals as goal

pub hold-requires : goal.hold-requires
hold-requires g c = c.args.self.now.own ∙ none_out c.args.multiplexor (Write c.args.method c.args.value.now) (g.B.Steppable.state c.args.self.now.bench) _ (sym c.begin_write.ensures.answer ∙ c.in_ok-ticket.was)

pub invariant_of-self-2 : goal.invariant_of-self-2
invariant_of-self-2 g c = record { own = c.hold.ensures.after ∙ begin_holds c.args.multiplexor (Write c.args.method c.args.value.now) (Ok _) _ _ _ _ c.args.self.now.own refl (sym c.in_ok-ticket.was ∙ c.begin_write.ensures.answer) c.begin_write.ensures.after }
