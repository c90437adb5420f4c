use Rattle.std.proofs.Common.{◌≡◌, ◌+◌, false, true, refl, ◌∙◌, subst, arith}
use Rattle.rounds.specs.Rounds.{Round, Goes, Rounds, none, more, ended, full}
use Rattle.rounds.proofs.Went.{went_nowhere, went_on, went_as}
use Rattle.rounds.proofs.transfer.pass_frames.Goals as goal

pub loop-init : goal.loop-init
loop-init g c = record { went = went_nowhere (Goes 0) _ none; ticket = refl }

pub loop-preserved : goal.loop-preserved
loop-preserved g c =
    let of = g.B.Steppable.state in
    let n = c.loop.counter in
    record {
      went = went_on (Goes n) (Round false) (Goes (n + 1)) (of c.args.session.now.bench) (of c.loop.session.bench) (of c.round.new.session.bench) (λ xs ys all one. more n xs ys all one) c.loop.invariant.went c.if-round.ensures.went;
      ticket = c.round.ensures.ticket ∙ c.loop.invariant.ticket;
    }

pub returns-then-round-clause-went : goal.returns-then-round-clause-went
returns-then-round-clause-went g c =
    let of = g.B.Steppable.state in
    let n = c.loop.counter in
    went_on (Goes n) (Round true) Rounds (of c.args.session.now.bench) (of c.loop.session.bench) (of c.round.new.session.bench) (λ xs ys all last. ended n xs ys c.loop-test.true all last) c.loop.invariant.went c.if-round.ensures.went

pub returns-clause-went : goal.returns-clause-went
returns-clause-went g c =
    let of = g.B.Steppable.state in
    let whole : c.loop.counter ≡ 13000 = omega arith in
    went_as (Goes c.loop.counter) Rounds (of c.args.session.now.bench) (of c.loop.session.bench) (λ xs all. full xs (subst (λ n. Goes n xs) whole all)) c.loop.invariant.went
