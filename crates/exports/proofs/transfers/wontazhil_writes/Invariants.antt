use Rattle.std.proofs.Common.{◌≡◌, ◌≤◌, None}
use Rattle.dictionary.specs.Tables.{table_entries}
use Rattle.bench.specs.States.{state_of}
use Rattle.rounds.specs.Rounds.{Went}
use Rattle.exports.specs.Transfers.{Writes, new_bench}
use Rattle.exports.proofs.transfers.wontazhil_writes.Given as goal

abbrev pub invariant-loop-done : goal.invariant-loop-done
invariant-loop-done l = record {
  most : l.good ≤ l.done;
  told : Went (Writes l.multiplexor l.method l.value l.done l.good) new_bench (state_of (λ m. m) table_entries l.session.bench);
  ticket : l.session.held ≡ None;
}
