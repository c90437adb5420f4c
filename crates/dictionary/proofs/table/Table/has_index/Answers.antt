use Rattle.std.specs.List.{list_any}
use Rattle.std.proofs.Common.{ap, ◌∙◌, rules}
use Rattle.std.proofs.lemmas.Iterator.{YieldsList-from_slice}
use Rattle.std.proofs.lemmas.Iterator.Search.{any_from_yields_List}
use Rattle.dictionary.proofs.Finding.{is_of, index_of_any}
use Rattle.dictionary.proofs.table.Table.has_index.Goals as goal

pub returns : goal.returns
returns c =
    let t = c.args.self.now in
    let i = c.args.index in
    any_from_yields_List (is_of i) _ _ _ c.any.ensures.ran (YieldsList-from_slice _ c.iter.ensures.rest) (λ x b q k. search rules)
    ∙ ap (list_any (is_of i)) c.deref.ensures.0
    ∙ index_of_any t.bytes.items i t.rows.items
