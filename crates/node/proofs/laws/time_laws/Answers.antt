use Rattle.node.proofs.TimeLaws.{frames_restart, none_changes_nothing, time_runs_out}
use Rattle.node.proofs.laws.time_laws.Goals as goal

pub returns : goal.returns
returns c = record { frames_restart = frames_restart; none_changes_nothing = none_changes_nothing; time_runs_out = time_runs_out }
