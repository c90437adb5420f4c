use Rattle.search.proofs.Ordering.{answers_by}
use Rattle.wire.proofs.Multiplexors.{by_fields}
use Rattle.dictionary.proofs.Finding.{table_place}
use Rattle.dictionary.proofs.table.Table.place_by_halves.Goals as goal

pub returns : goal.returns
returns c =
    let answers = rw c.deref.ensures.0 at (answers_by by_fields c.place.ensures.answers) in
    table_place c.args.self.now c.args.multiplexor c.place.result answers
