use Rattle.std.proofs.Common.{true, false, sym, ◌∙◌, subst}
use Rattle.bench.specs.Model.Calls.{tick_frames}
use Rattle.bench.proofs.Law.Runs.{tick_happened}
use Rattle.bench.proofs.Held.{tick_holds}
use Rattle.rounds.specs.Rounds.{Round, Went}
use Rattle.rounds.proofs.Joining.{round_went}
use Rattle.rounds.proofs.parts.round.Goals as goal

pub returns-then-over-clause-went : goal.returns-then-over-clause-went
returns-then-over-clause-went g c =
    let of = g.B.Steppable.state in
    let s = of c.args.session.now.bench in
    let u = of c.hear_all-over.new.session.bench in
    let v = of c.tick-ended.new.self.bench in
    subst (λ over. Went (Round over) s v) (sym c.if-over.true) (round_went true c.tick-ended.result (tick_frames u) s (of c.serve_all.new.session.bench) u v c.serve_all.ensures.went c.if-over.ensures.went (tick_happened u c.tick-ended.ensures.answer c.tick-ended.ensures.after))

pub returns-then-over-clause-ticket : goal.returns-then-over-clause-ticket
returns-then-over-clause-ticket g c = c.tick-ended.new.self.own ∙ sym (tick_holds _ _ _ c.hear_all-over.new.session.own c.tick-ended.ensures.after) ∙ c.hear_all-over.ensures.ticket ∙ c.serve_all.ensures.ticket

pub returns-else-over-clause-went : goal.returns-else-over-clause-went
returns-else-over-clause-went g c =
    let of = g.B.Steppable.state in
    let u = of c.hear_all-over.new.session.bench in
    round_went false c.tick-ended.result (tick_frames u) (of c.args.session.now.bench) (of c.serve_all.new.session.bench) u (of c.tick-ended.new.self.bench) c.serve_all.ensures.went c.if-over.ensures.went (tick_happened u c.tick-ended.ensures.answer c.tick-ended.ensures.after)

pub returns-else-over-clause-ticket : goal.returns-else-over-clause-ticket
returns-else-over-clause-ticket g c = c.tick-ended.new.self.own ∙ sym (tick_holds _ _ _ c.hear_all-over.new.session.own c.tick-ended.ensures.after) ∙ c.hear_all-over.ensures.ticket ∙ c.serve_all.ensures.ticket
