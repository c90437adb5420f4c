use Rattle.std.proofs.Common.{◌≡◌, ◌+◌, [], refl, sym, ◌∙◌, subst, arith}
use Rattle.node.specs.declared.served.Served.TheVariants.{NothingWaited}
use Rattle.bench.specs.Law.Runs.{Serve}
use Rattle.bench.proofs.Law.Runs.{serve_happened}
use Rattle.bench.proofs.Held.{serve_holds}
use Rattle.rounds.specs.Rounds.{Serves, ServesAll, none, more, ended, full}
use Rattle.rounds.proofs.Went.{went_nowhere, went_by, went_as}
use Rattle.rounds.proofs.parts.serve_all.Goals as goal

pub loop-init : goal.loop-init
loop-init g c = record { went = went_nowhere (Serves 0) _ none; ticket = refl }

pub loop-preserved : goal.loop-preserved
loop-preserved g c =
    let of = g.B.Steppable.state in
    let n = c.loop.counter in
    let t = of c.loop.session.bench in
    let r = c.serve.result in
    record {
      went = went_by (Serves n) (Serves (n + 1)) (Serve r) [] (of c.args.session.now.bench) t (of c.serve.new.self.bench) (λ xs all. more n xs r all c.in_default.not-NothingWaited) c.loop.invariant.went (serve_happened t c.serve.ensures.answer c.serve.ensures.after);
      ticket = c.serve.new.self.own ∙ sym (serve_holds _ _ _ c.loop.session.own c.serve.ensures.after) ∙ c.loop.invariant.ticket;
    }

pub returns-in-NothingWaited-clause-went : goal.returns-in-NothingWaited-clause-went
returns-in-NothingWaited-clause-went g c =
    let of = g.B.Steppable.state in
    let n = c.loop.counter in
    let t = of c.loop.session.bench in
    went_by (Serves n) ServesAll (Serve NothingWaited) [] (of c.args.session.now.bench) t (of c.serve.new.self.bench) (λ xs all. ended n xs c.loop-test.true all) c.loop.invariant.went (serve_happened t c.in-NothingWaited.ensures.answer c.serve.ensures.after)

pub returns-in-NothingWaited-clause-ticket : goal.returns-in-NothingWaited-clause-ticket
returns-in-NothingWaited-clause-ticket g c = c.serve.new.self.own ∙ sym (serve_holds _ _ _ c.loop.session.own c.serve.ensures.after) ∙ c.loop.invariant.ticket

pub returns-clause-went : goal.returns-clause-went
returns-clause-went g c =
    let of = g.B.Steppable.state in
    let whole : c.loop.counter ≡ 300 = omega arith in
    went_as (Serves c.loop.counter) ServesAll (of c.args.session.now.bench) (of c.loop.session.bench) (λ xs all. full xs (subst (λ n. Serves n xs) whole all)) c.loop.invariant.went
