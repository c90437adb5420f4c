use Rattle.line.specs.Meanings.{waiting, full}
use Rattle.line.proofs.bounded_line.BoundedLineLine.TheImpl.Goals as goal

-- what is left open of a line in general is here whether the receiver's queue was full
pub send-tells : goal.send-tells
send-tells g c = record { sends = (full g.row.ROOM (waiting c.args.to c.args.self.now), c.ensures.exactly) }
