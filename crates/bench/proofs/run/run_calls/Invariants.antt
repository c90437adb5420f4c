use Rattle.std.proofs.Common.{◌≡◌, ◌≤◌, length, take, vec_len, vec_capacity}
use Rattle.bench.specs.States.{state_of}
use Rattle.bench.proofs.Ties.{Made}
use Rattle.bench.proofs.run.run_calls.Given as goal

abbrev pub invariant-loop-call : goal.invariant-loop-call
invariant-loop-call g l = record {
  count : vec_len l.answers ≡ l.call-index;
  room : length l.calls ≤ vec_capacity l.answers;
  made : Made (take l.call-index l.calls) l.answers.items (state_of g.L.Line.shows g.D.Readable.meaning l.initial.session.bench) (state_of g.L.Line.shows g.D.Readable.meaning l.session.bench);
}
