-- What a line means where the queue of one of its ends is lent.
use Rattle.std.specs.Prelude.{List}
use Rattle.std.specs.Borrow.{Lends, Fml, RattleType, MutBor}
use Rattle.wire.specs.declared.frame.Frame.{Frame}
use Rattle.wire.specs.contracts.frame.Frame.{the_row as frame_row}
use Rattle.line.specs.declared.end.End.{End}
use Rattle.line.specs.Meanings.{Meaning, with_waiting}
use Rattle.line.specs.contracts.queue.Queue.{the_row as queue_row}
use Rattle.line.specs.contracts.bounded_line.BoundedLine.{the_row}

-- once the borrow r ends, the frames that r shows last wait for the end
abbrev pub lends_queue : RattleType → MutBor Meaning → End → MutBor (List Frame) → Fml
lends_queue ROOM line end r = Lends (the_row ROOM) (queue_row frame_row ROOM) line r (λ frames. with_waiting end frames line.now)
