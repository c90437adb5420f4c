use Rattle.std.proofs.Common.{◌≡◌, ◌+◌, cond, sym, ap, ◌∙◌, subst, arith}
use Rattle.wire.specs.declared.multiplexor.Multiplexor.{Multiplexor}
use Rattle.dictionary.specs.Tables.{table_entries}
use Rattle.master.specs.Calls.{Write}
use Rattle.bench.specs.Model.States.{fresh}
use Rattle.bench.specs.Numbers.{nearest_number, nearest_size}
use Rattle.bench.specs.States.{state_of}
use Rattle.rounds.specs.Rounds.{Went}
use Rattle.rounds.proofs.Went.{went_nowhere}
use Rattle.exports.specs.Transfers.{OneTold, Writes, is_written, new_bench}
use Rattle.exports.proofs.Joining.{counted_none, counted_more, went_more, adds_one, adds_none}
use Rattle.exports.proofs.transfers.wontazhil_writes.Goals as goal
use Rattle.exports.proofs.transfers.wontazhil_writes.Goals.{then-write, else-write}

pub loop-done-init : goal.loop-done-init
loop-done-init c =
    let m : Multiplexor = record { index = c.args.index; subindex = c.args.subindex } in
    let how = c.method_of-method.result in
    let v = c.args.value.now in
    let started = c.new-session.ensures.bench ∙ ap (λ d. fresh d (nearest_number 5) (nearest_size 127)) c.sample.ensures in
    record {
      most = omega arith;
      told = subst (λ s. Went (Writes m how v 0 0) new_bench s) (sym started) (went_nowhere (Writes m how v 0 0) new_bench (counted_none is_written m (Write how v)));
      ticket = c.new-session.ensures.ticket;
    }

pub loop-done-preserved : goal.loop-done-preserved
loop-done-preserved c =
    let m : Multiplexor = record { index = c.args.index; subindex = c.args.subindex } in
    let how = c.method_of-method.result in
    let v = c.args.value.now in
    let n = c.loop-done.done in
    let good = c.loop-done.good in
    let told = c.write.result in
    let most = c.loop-done.invariant.most in
    let s = state_of (λ m. m) table_entries c.loop-done.session.bench in
    let t = state_of (λ m. m) table_entries c.write.new.session.bench in
    let added : c.if-write.good ≡ good + cond told 1 0 = elim c.if-write.branch [
      | then-write w ↦ adds_one told good c.if-write.good w.if-write.true w.good-is
      | else-write w ↦ adds_none told good c.if-write.good w.if-write.false w.good-is
    ] in
    record {
      most = elim c.if-write.branch [
        | then-write w ↦ (let is = w.good-is in omega arith)
        | else-write w ↦ (let is = w.good-is in omega arith)
      ];
      told = went_more (Writes m how v) (OneTold is_written m (Write how v)) (counted_more is_written m (Write how v)) n good c.if-write.good told new_bench s t added c.loop-done.invariant.told c.write.ensures.went;
      ticket = c.write.ensures.ticket;
    }

pub returns-clause-told : goal.returns-clause-told
returns-clause-told c =
    let m : Multiplexor = record { index = c.args.index; subindex = c.args.subindex } in
    let v = c.args.value.now in
    let good = c.loop-done.good in
    let last = state_of (λ m. m) table_entries c.loop-done.session.bench in
    let whole : c.loop-done.done ≡ c.args.count = omega arith in
    (last, subst (λ how. Went (Writes m how v c.args.count good) new_bench last) c.method_of-method.ensures (subst (λ n. Went (Writes m c.method_of-method.result v n good) new_bench last) whole c.loop-done.invariant.told))
