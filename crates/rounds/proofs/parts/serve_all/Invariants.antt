use Rattle.std.proofs.Common.{◌≡◌}
use Rattle.rounds.specs.Rounds.{Serves, Went}
use Rattle.rounds.proofs.parts.serve_all.Given as goal

abbrev pub invariant-loop : goal.invariant-loop
invariant-loop g l = record {
  went : Went (Serves l.counter) (g.B.Steppable.state l.initial.session.bench) (g.B.Steppable.state l.session.bench);
  ticket : l.session.held ≡ l.initial.session.held;
}
