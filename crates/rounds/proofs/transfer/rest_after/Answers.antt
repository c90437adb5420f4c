use Rattle.std.proofs.Common.{◌≡◌, ℕ, ◌⊎◌, inl, inr, sym, ap, subst}
use Rattle.report.specs.declared.report.Outcome.{Outcome}
use Rattle.report.specs.declared.report.Outcome.TheVariants.{Written, Read}
use Rattle.rounds.specs.Rounds.{Ticks, resting, none, Went}
use Rattle.rounds.proofs.Went.{went_nowhere}
use Rattle.rounds.proofs.transfer.rest_after.Goals as goal

-- after a success a master does not rest
no_rest : (r : Outcome) → (r ≡ Written) ⊎ ((n : ℕ) × (r ≡ Read n)) → resting r ≡ 0
no_rest r (inl is) = ap resting is
no_rest r (inr read) = ap resting read.1

pub returns-in-Written-clause-went : goal.returns-in-Written-clause-went
returns-in-Written-clause-went g c =
    let s = g.B.Steppable.state c.args.session.now.bench in
    subst (λ n. Went (Ticks n) s s) (sym (no_rest c.args.outcome c.in-Written.is)) (went_nowhere (Ticks 0) s none)
