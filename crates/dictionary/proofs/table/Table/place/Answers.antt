use Rattle.std.specs.List.{position_from}
use Rattle.std.proofs.Common.{ap, ◌∙◌, rules}
use Rattle.std.proofs.lemmas.Iterator.{YieldsList-from_slice}
use Rattle.std.proofs.lemmas.Iterator.Adapters.{position_from-zero}
use Rattle.std.proofs.lemmas.Iterator.Search.{position_from_yields_List}
use Rattle.dictionary.proofs.Finding.{is_at, walk_alike}
use Rattle.dictionary.proofs.table.Table.place.Goals as goal

pub returns : goal.returns
returns c =
    let t = c.args.self.now in
    let m = c.args.multiplexor in
    position_from_yields_List (is_at m) _ _ _ c.position.ensures.ran (YieldsList-from_slice _ c.iter.ensures.rest) (λ x b q k. search rules)
    ∙ position_from-zero (is_at m) _
    ∙ ap (position_from (is_at m) 0) c.deref.ensures.0
    ∙ walk_alike t.bytes.items t.rows.items 0 m
