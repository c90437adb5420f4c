use Rattle.std.proofs.Common.{◌≡◌, rules, ◌∙◌}
use Rattle.master.specs.Calls.{Write}
use Rattle.bench.specs.Model.Calls.{begin_step}
use Rattle.bench.specs.Law.Runs.{Begin}
use Rattle.bench.proofs.Law.Runs.{begin_happened, keeps_law}
use Rattle.bench.proofs.Beginning.{stays, begin_refused}
use Rattle.bench.specs.States.{state_of}
use Rattle.bench.proofs.bench.BenchSteppable.begin_write.Goals as goal

pub returns-in_err-begun-clause-after : goal.returns-in_err-begun-clause-after
returns-in_err-begun-clause-after g c = begin_refused (state_of g.L.Line.shows g.D.Readable.meaning c.args.self.now) c.args.multiplexor (Write c.args.method c.args.value.now) c.begin_write.follows.holds-at-none c.in_err-begun.ensures.answer

pub returns-in_err-begun-clause-law : goal.returns-in_err-begun-clause-law
returns-in_err-begun-clause-law g c = keeps_law (Begin _ (Write c.args.method c.args.value.now) _) _ _ _ (begin_happened _ (Write c.args.method c.args.value.now) _ (search rules) (search rules) (returns-in_err-begun-clause-after g c))

pub returns-clause-law : goal.returns-clause-law
unfolding begin_step
returns-clause-law g c = keeps_law (Begin _ (Write c.args.method c.args.value.now) _) _ _ _ (begin_happened _ (Write c.args.method c.args.value.now) _ (search rules) (search rules) (search rules))

pub returns-in_err-begun-clause-refused : goal.returns-in_err-begun-clause-refused
returns-in_err-begun-clause-refused g c =
    let same : c.begin_write.follows.lender-at-none ≡ c.args.self.now.master = c.begin_write.follows.holds-at-none ∙ stays c.args.self.now.master c.args.multiplexor (Write c.args.method c.args.value.now) _ c.in_err-begun.ensures.answer in
    search rules
