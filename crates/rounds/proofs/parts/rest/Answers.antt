use Rattle.std.proofs.Common.{◌+◌, refl, sym, ◌∙◌}
use Rattle.bench.specs.Model.Calls.{tick_frames}
use Rattle.bench.specs.Law.Runs.{Tick}
use Rattle.bench.proofs.Law.Runs.{tick_happened}
use Rattle.bench.proofs.Held.{tick_holds}
use Rattle.rounds.specs.Rounds.{Ticks, none, more}
use Rattle.rounds.proofs.Went.{went_nowhere, went_by}
use Rattle.rounds.proofs.parts.rest.Goals as goal

pub loop-init : goal.loop-init
loop-init g c = record { went = went_nowhere (Ticks 0) _ none; ticket = refl; dictionary = refl }

pub loop-preserved : goal.loop-preserved
loop-preserved g c =
    let of = g.B.Steppable.state in
    let n = c.loop.counter in
    let t = of c.loop.session.bench in
    let r = c.tick.result in
    record {
      went = went_by (Ticks n) (Ticks (n + 1)) (Tick r) (tick_frames t) (of c.args.session.now.bench) t (of c.tick.new.self.bench) (λ xs all. more n xs r all) c.loop.invariant.went (tick_happened t c.tick.ensures.answer c.tick.ensures.after);
      ticket = c.tick.new.self.own ∙ sym (tick_holds _ _ _ c.loop.session.own c.tick.ensures.after) ∙ c.loop.invariant.ticket;
      dictionary = c.tick.ensures.dictionary ∙ c.loop.invariant.dictionary;
    }
