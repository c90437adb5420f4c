use Rattle.std.proofs.Common.{refl}
use Rattle.master.specs.Sendings.{shown_frames}
use Rattle.bench.proofs.Sending.{one_more_sent, all_sent}
use Rattle.bench.proofs.bench.sending.send_frames.Goals as goal

pub loop-frame-init : goal.loop-frame-init
loop-frame-init g c = rw c.into_iter-frame-iterator.ensures.into_iter_gives (λ ls. (ls, refl))

pub loop-frame-preserved : goal.loop-frame-preserved
loop-frame-preserved g c = one_more_sent (shown_frames c.args.frames) (g.L.Line.shows c.args.line.now) c.in-Some.ensures.steps c.send.ensures.sends c.loop-frame.invariant

pub returns : goal.returns
returns g c = all_sent (shown_frames c.args.frames) (g.L.Line.shows c.args.line.now) c.in-None.ensures.steps.0 c.loop-frame.invariant
