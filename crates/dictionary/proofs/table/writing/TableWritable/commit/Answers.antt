use Rattle.std.proofs.Common.{sym, ◌∙◌, arith}
use Rattle.dictionary.specs.Tables.{table_entries}
use Rattle.dictionary.proofs.Presence.{put_from, committed_well}
use Rattle.dictionary.proofs.table.writing.TableWritable.commit.Goals as goal

pub returns-clause-after : goal.returns-clause-after
returns-clause-after c =
    let d = table_entries c.args.self.now in
    let m = c.args.multiplexor in
    let v = c.args.value.now in
    let i = c.in_ok-place.place in
    let s = c.in_ok-place.ensures in
    c.store.ensures ∙ sym (put_from m v d 0 i i (omega arith) s.0.place) ∙ sym (committed_well m d v s.1)
