use Rattle.master.proofs.Answering.{success_is_answered, abort_heard_ends}
use Rattle.master.proofs.Bounding.{repeats_are_bounded}
use Rattle.master.proofs.Telling.{failures_told}
use Rattle.master.proofs.Resting.{rests_for_thirty_ticks}
use Rattle.master.proofs.Waiting.{tenth_tick_ends, only_open_transfers_end}
use Rattle.master.proofs.laws.master_laws.Goals as goal

pub returns : goal.returns
returns c = record {
  repeats = repeats_are_bounded;
  tenth = tenth_tick_ends;
  closed = only_open_transfers_end;
  rests = rests_for_thirty_ticks;
  success = success_is_answered;
  abort = abort_heard_ends;
  failure = failures_told;
}
