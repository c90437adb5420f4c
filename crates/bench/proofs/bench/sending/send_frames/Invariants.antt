use Rattle.master.specs.Sendings.{shown_frames}
use Rattle.bench.proofs.Sending.{SentSoFar}
use Rattle.bench.proofs.bench.sending.send_frames.Given as goal

abbrev pub invariant-loop-frame : goal.invariant-loop-frame
invariant-loop-frame g l = SentSoFar (shown_frames l.fn.frames) (g.L.Line.shows l.fn.line) (shown_frames l.frame-iterator) (g.L.Line.shows l.line)
