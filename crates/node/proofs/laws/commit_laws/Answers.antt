use Rattle.node.proofs.CommitLaws.{commits_told, others_leave, ticks_leave}
use Rattle.node.proofs.OnceLaws.{one_at_most}
use Rattle.node.proofs.RunLaws.{values_carried, toggles_alternate}
use Rattle.node.proofs.laws.commit_laws.Goals as goal

pub returns : goal.returns
returns c =
    record {
      commits_told = commits_told;
      others_leave = others_leave;
      ticks_leave = ticks_leave;
      one_at_most = one_at_most;
      values_carried = values_carried;
      toggles_alternate = toggles_alternate;
    }
