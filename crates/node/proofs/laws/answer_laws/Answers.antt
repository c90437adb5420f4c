use Rattle.node.proofs.AnswerLaws.{foreign_dropped, starts_replace, aborts_end, others_refused, unknown_refused, block_aborted, block_stays}
use Rattle.node.proofs.CommitLaws.{aborts_leave_idle}
use Rattle.node.proofs.laws.answer_laws.Goals as goal

pub returns : goal.returns
returns c =
    record {
      aborts_leave_idle = aborts_leave_idle;
      foreign_dropped = foreign_dropped;
      starts_replace = starts_replace;
      aborts_end = aborts_end;
      others_refused = others_refused;
      unknown_refused = unknown_refused;
      block_aborted = block_aborted;
      block_stays = block_stays;
    }
