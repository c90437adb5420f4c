use Rattle.std.proofs.Common.{◌≤◌, [], length, sym, subst, rules, arith, take_all}
use Rattle.bench.specs.Law.Runs.{Run}
use Rattle.bench.proofs.Law.Runs.{law_throughout}
use Rattle.bench.specs.Numbers.{nearest_number, nearest_size}
use Rattle.bench.specs.States.{state_of}
use Rattle.bench.specs.Answers.{Tied}
use Rattle.bench.proofs.Ties.{Made, none_made, next_made}
use Rattle.bench.proofs.run.run_calls.Goals as goal

pub loop-call-init : goal.loop-call-init
loop-call-init g c =
    let s = state_of g.L.Line.shows g.D.Readable.meaning c.new-session.result.bench in
    record {
      count = search rules;
      room = search rules;
      made = subst (λ answers. Made [] answers s s) (sym c.clear.ensures.items) (none_made s);
    }

pub loop-call-preserved : goal.loop-call-preserved
loop-call-preserved g c = record {
  count = search rules;
  room = search rules;
  made = next_made c.args.calls.now c.loop-call.call-index _ c.act.result c.loop-call-test.true c.push_reserved.ensures.items c.loop-call.invariant.made c.act.ensures;
}

pub returns-clause-law : goal.returns-clause-law
returns-clause-law g c =
    let d = g.D.Readable.meaning c.args.dictionary in
    let n = nearest_number c.args.node in
    let b = nearest_size c.args.block_size in
    let t = state_of g.L.Line.shows g.D.Readable.meaning c.loop-call.session.bench in
    let made = c.loop-call.invariant.made in
    let answers = c.loop-call.answers.items in
    let past : length c.args.calls.now ≤ c.loop-call.call-index = omega arith in (
      made.events,
      subst (λ ds. Tied ds answers made.events) (take_all c.loop-call.call-index c.args.calls.now past) made.tied,
      law_throughout d (g.D.Readable.lawful c.args.dictionary) n b made.events t (subst (λ s. Run s made.events t) c.new-session.ensures.bench made.run),
    )
