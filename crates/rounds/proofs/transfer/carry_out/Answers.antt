use Rattle.std.proofs.Common.{Some, Ok, subst, rules}
use Rattle.bench.specs.Tickets.{SettlesHeld}
use Rattle.rounds.proofs.Joining.{held_carried_out, none_carried_out}
use Rattle.rounds.proofs.transfer.carry_out.Goals as goal

pub returns-clause-went : goal.returns-clause-went
returns-clause-went g c =
    let of = g.B.Steppable.state in
    let buffer = c.args.buffer.now in
    let after = c.settle.new.buffer in
    let t = of c.pass_frames.new.session.bench in
    let u = of c.settle.new.self.bench in
    let settled = subst (λ r. SettlesHeld c.pass_frames.new.session.held (Some r) buffer after t u) c.in-Ok.is c.in_ok-report.ensures.settled in
    held_carried_out c.args.session.now.held c.in-Ok.report buffer after (of c.args.session.now.bench) t u (of c.rest_after.new.session.bench) c.pass_frames.ensures.went
    (subst (λ held. SettlesHeld held (Some (Ok c.in-Ok.report)) buffer after t u) c.pass_frames.ensures.ticket settled)
    c.rest_after.ensures.went

pub returns-in_err-ticket-clause-went : goal.returns-in_err-ticket-clause-went
returns-in_err-ticket-clause-went g c = none_carried_out _ _ c.args.buffer.now (g.B.Steppable.state c.args.session.now.bench) (search rules) (search rules)
