use Rattle.std.proofs.Common.{◌≡◌}
use Rattle.rounds.specs.Rounds.{Hears, Went}
use Rattle.rounds.proofs.parts.hear_all.Given as goal

abbrev pub invariant-loop : goal.invariant-loop
invariant-loop g l = record {
  went : Went (Hears l.counter l.over) (g.B.Steppable.state l.initial.session.bench) (g.B.Steppable.state l.session.bench);
  ticket : l.session.held ≡ l.initial.session.held;
  dictionary : g.B.Steppable.dictionary l.session.bench ≡ g.B.Steppable.dictionary l.initial.session.bench;
}
