-- Each case is computed.
use Rattle.std.proofs.Common.{refl}
use Rattle.wire.specs.AbortCodes.{code}
use Rattle.wire.specs.CodeNumbers.{is_listed}
use Rattle.crc.specs.Registers.{after_bit, after_byte}
use Rattle.master.specs.Calls.{begin, tick}
use Rattle.master.specs.Steps.{hear, parting, abort_heard}
use Rattle.node.specs.Steps.{step}
use Rattle.node.specs.Nodes.{tick as tick_node}
use Rattle.bench.specs.Model.Calls.{begin_step, serve_step, hear_step, tick_step, settle_step}
use Rattle.bench.proofs.cases.sample_cases.Goals as goal

pub returns : goal.returns
unfolding code is_listed after_bit after_byte begin tick tick_node hear parting abort_heard step begin_step serve_step hear_step tick_step settle_step
returns c = record {
  write_asked = refl;
  write_commits = refl;
  write_answered = refl;
  write_stored = refl;
  device_type_given = refl;
  device_name_announced = refl;
  device_name_given = refl;
  read_only_refused = λ a b c d. refl;
  segments_sent = refl;
  end_sent = refl;
  digits_stored = refl;
  crc_of_no_bytes = refl;
  ninth_tick = refl;
  after_ninth_tick = refl;
  tenth_tick = refl;
  node_waits = refl;
  node_aborts = refl;
  write_told = refl;
  refusal_told = refl;
  too_short = refl;
  too_short_for_none = refl;
  device_name_read = refl;
  doubt_told = refl;
  given_up = refl;
  longest_begins = λ v h. rw h refl;
  longer_refused = λ v h. rw h refl;
}
