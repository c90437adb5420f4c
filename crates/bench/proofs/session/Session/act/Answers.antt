use Rattle.std.proofs.Common.{rules}
use Rattle.master.specs.Calls as order
use Rattle.bench.specs.Law.Runs.{Begin, Serve, Hear, Tick}
use Rattle.bench.proofs.Law.Runs.{begin_happened, serve_happened, hear_happened, tick_happened, act_happens}
use Rattle.bench.proofs.session.Session.act.Goals as goal

pub returns-in-BeginRead : goal.returns-in-BeginRead
returns-in-BeginRead g c =
    let s = g.B.Steppable.state c.args.self.now.bench in
    let m = c.in-BeginRead.multiplexor in
    let o = order.Read in
    let made = act_happens (Begin m o c.begin_read.result) _ (begin_happened m o s (search rules) c.begin_read.ensures.answer c.begin_read.ensures.after) in
    (made.0, rw c.in-BeginRead.is made.1, made.2)

pub returns-in-BeginWrite : goal.returns-in-BeginWrite
returns-in-BeginWrite g c =
    let s = g.B.Steppable.state c.args.self.now.bench in
    let m = c.in-BeginWrite.multiplexor in
    let o = order.Write c.in-BeginWrite.method c.in-BeginWrite.value.now in
    let made = act_happens (Begin m o c.begin_write.result) _ (begin_happened m o s (search rules) c.begin_write.ensures.answer c.begin_write.ensures.after) in
    (made.0, rw c.in-BeginWrite.is made.1, made.2)

pub returns-in-Serve : goal.returns-in-Serve
returns-in-Serve g c =
    let made = act_happens (Serve c.serve.result) _ (serve_happened (g.B.Steppable.state c.args.self.now.bench) c.serve.ensures.answer c.serve.ensures.after) in
    (made.0, rw c.in-Serve.is made.1, made.2)

pub returns-in-Hear : goal.returns-in-Hear
returns-in-Hear g c =
    let made = act_happens (Hear c.hear.result) _ (hear_happened (g.B.Steppable.state c.args.self.now.bench) c.hear.ensures.answer c.hear.ensures.after) in
    (made.0, rw c.in-Hear.is made.1, made.2)

pub returns-in-Tick : goal.returns-in-Tick
returns-in-Tick g c =
    let made = act_happens (Tick c.tick.result) _ (tick_happened (g.B.Steppable.state c.args.self.now.bench) c.tick.ensures.answer c.tick.ensures.after) in
    (made.0, rw c.in-Tick.is made.1, made.2)
