use Rattle.std.proofs.Common.{arith, sym, subst}
use Rattle.master.specs.Calls.{Read}
use Rattle.rounds.specs.Rounds.{Went}
use Rattle.exports.specs.Transfers.{OneTold, is_read}
use Rattle.exports.proofs.Joining.{transfer_went}
use Rattle.exports.proofs.transfers.read.Goals as goal

pub returns-clause-went : goal.returns-clause-went
returns-clause-went g c =
    let of = g.B.Steppable.state in
    let m = c.args.multiplexor in
    let o = Read in
    let s = of c.args.session.now.bench in
    let t = of c.begin_read.new.self.bench in
    let u = of c.carry_out.new.session.bench in
    subst (λ told. Went (OneTold is_read m o told) s u) (sym c.was_read.ensures)
    (transfer_went is_read m o _ _ c.carry_out.result c.args.buffer.now c.carry_out.new.buffer s t u (omega arith) c.requires c.args.session.now.own c.begin_read.new.self.own c.begin_read.ensures.answer c.begin_read.ensures.after c.carry_out.ensures.went)
