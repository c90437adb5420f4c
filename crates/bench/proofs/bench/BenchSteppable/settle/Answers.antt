use Rattle.std.proofs.Common.{rules, ◌≡◌, false, not, nat_eq, Some, sym, ◌∙◌}
use Rattle.std.specs.Option.{option_eq}
use Rattle.master.specs.States.{uncleared}
use Rattle.bench.specs.Model.Calls.{settle_step}
use Rattle.bench.specs.Law.Runs.{Settle}
use Rattle.bench.proofs.Law.Runs.{settle_happened, keeps_law}
use Rattle.bench.specs.States.{state_of}
use Rattle.bench.proofs.Settling.{taken_back, filled_back}
use Rattle.bench.proofs.bench.BenchSteppable.settle.Goals as goal

pub returns-clause-answer : goal.returns-clause-answer
returns-clause-answer g c =
    let s = state_of g.L.Line.shows g.D.Readable.meaning c.args.self.now in
    let own : false ≡ not (option_eq nat_eq (uncleared s.master) (Some c.args.ticket)) = cc (c.if-ne.ensures, c.uncleared.ensures, c.number.ensures) in
    taken_back s c.args.ticket c.args.buffer.now c.give_up-sending.follows.lender-at-none c.unwrap-report.result own c.if-buffer-lt-LONGEST.false c.give_up-sending.follows.holds-at-none (sym c.unwrap-report.ensures ∙ c.report.ensures)

pub returns-clause-buffer : goal.returns-clause-buffer
returns-clause-buffer g c = filled_back (state_of g.L.Line.shows g.D.Readable.meaning c.args.self.now) c.args.ticket c.args.buffer.now c.fill.new.buffer c.value.result.now c.give_up-sending.follows.lender-at-none c.unwrap-report.result (returns-clause-answer g c) c.give_up-sending.follows.holds-at-none c.value.ensures.value c.fill.ensures

pub returns-then-ne-clause-law : goal.returns-then-ne-clause-law
unfolding settle_step
returns-then-ne-clause-law g c = keeps_law (Settle _ _ _ _) _ _ _ (settle_happened c.args.ticket c.args.buffer.now (state_of g.L.Line.shows g.D.Readable.meaning c.args.self.now) (search rules) (search rules) (search rules))

pub returns-then-buffer-lt-LONGEST-clause-law : goal.returns-then-buffer-lt-LONGEST-clause-law
unfolding settle_step
returns-then-buffer-lt-LONGEST-clause-law g c = keeps_law (Settle _ _ _ _) _ _ _ (settle_happened c.args.ticket c.args.buffer.now (state_of g.L.Line.shows g.D.Readable.meaning c.args.self.now) (search rules) (search rules) (search rules))

pub returns-clause-law : goal.returns-clause-law
unfolding settle_step
returns-clause-law g c =
    let answer = returns-clause-answer g c in
    keeps_law (Settle _ _ _ _) _ _ _ (settle_happened c.args.ticket c.args.buffer.now (state_of g.L.Line.shows g.D.Readable.meaning c.args.self.now) answer (search rules) (search rules))
