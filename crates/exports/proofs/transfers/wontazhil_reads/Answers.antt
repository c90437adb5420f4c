use Rattle.std.proofs.Common.{◌≡◌, ◌+◌, cond, ap, ◌∙◌, subst, arith}
use Rattle.wire.specs.declared.multiplexor.Multiplexor.{Multiplexor}
use Rattle.dictionary.specs.Tables.{table_entries}
use Rattle.master.specs.Calls.{Read, Write}
use Rattle.master.specs.declared.method.Method.TheVariants.{Block}
use Rattle.bench.specs.Model.States.{fresh}
use Rattle.bench.specs.Numbers.{nearest_number, nearest_size}
use Rattle.bench.specs.States.{state_of}
use Rattle.rounds.specs.Rounds.{Went}
use Rattle.rounds.proofs.Went.{went_as}
use Rattle.exports.specs.Transfers.{OneTold, Reads, is_written, is_read, new_bench}
use Rattle.exports.proofs.Joining.{reads_none, reads_more, went_more, adds_one, adds_none}
use Rattle.exports.proofs.transfers.wontazhil_reads.Goals as goal
use Rattle.exports.proofs.transfers.wontazhil_reads.Goals.{then-read, else-read}

pub loop-done-init : goal.loop-done-init
loop-done-init c =
    let m : Multiplexor = record { index = c.args.index; subindex = c.args.subindex } in
    let v = c.args.value.now in
    let t = state_of (λ m. m) table_entries c.write.new.session.bench in
    let started = c.new-session.ensures.bench ∙ ap (λ d. fresh d (nearest_number 5) (nearest_size 127)) c.sample.ensures in
    record {
      most = omega arith;
      told = went_as (OneTold is_written m (Write Block v) c.write.result) (Reads m v 0 0) new_bench t (λ xs one. reads_none m v c.write.result xs one) (subst (λ s. Went (OneTold is_written m (Write Block v) c.write.result) s t) started c.write.ensures.went);
      ticket = c.write.ensures.ticket;
    }

pub loop-done-preserved : goal.loop-done-preserved
loop-done-preserved c =
    let m : Multiplexor = record { index = c.args.index; subindex = c.args.subindex } in
    let v = c.args.value.now in
    let n = c.loop-done.done in
    let good = c.loop-done.good in
    let told = c.read.result in
    let most = c.loop-done.invariant.most in
    let s = state_of (λ m. m) table_entries c.loop-done.session.bench in
    let t = state_of (λ m. m) table_entries c.read.new.session.bench in
    let added : c.if-read.good ≡ good + cond told 1 0 = elim c.if-read.branch [
      | then-read w ↦ adds_one told good c.if-read.good w.if-read.true w.good-is
      | else-read w ↦ adds_none told good c.if-read.good w.if-read.false w.good-is
    ] in
    record {
      most = elim c.if-read.branch [
        | then-read w ↦ (let is = w.good-is in omega arith)
        | else-read w ↦ (let is = w.good-is in omega arith)
      ];
      told = went_more (Reads m v) (OneTold is_read m Read) (reads_more m v) n good c.if-read.good told new_bench s t added c.loop-done.invariant.told c.read.ensures.went;
      ticket = c.read.ensures.ticket;
    }

pub returns-clause-told : goal.returns-clause-told
returns-clause-told c =
    let m : Multiplexor = record { index = c.args.index; subindex = c.args.subindex } in
    let last = state_of (λ m. m) table_entries c.loop-done.session.bench in
    let whole : c.loop-done.done ≡ c.args.count = omega arith in
    (last, subst (λ n. Went (Reads m c.args.value.now n c.loop-done.good) new_bench last) whole c.loop-done.invariant.told)
