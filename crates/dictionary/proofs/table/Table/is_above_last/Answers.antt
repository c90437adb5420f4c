use Rattle.std.specs.Prelude.{MatchOption, IsTrue}
use Rattle.std.specs.Borrow.{Bor}
use Rattle.std.specs.Option.{option_map, option_copied}
use Rattle.std.proofs.Common.{◌≡◌, ◌-◌, Bool, List, length, slice_get, Some, None, Option, sym, ap, ◌∙◌, rules}
use Rattle.wire.specs.declared.multiplexor.Multiplexor.{Multiplexor}
use Rattle.wire.specs.Multiplexors.{before}
use Rattle.dictionary.specs.declared.row.Row.{Row}
use Rattle.dictionary.specs.Additions.{is_above}
use Rattle.dictionary.proofs.Finding.{at, last_row}
use Rattle.dictionary.proofs.table.Table.is_above_last.Goals as goal

above : (m : Multiplexor) (o : Option (Bor Row)) (b : Bool) (Said : Bor Row → Type 0) → ((r : Bor Row) → Said r → b ≡ before (at r.now) m) → MatchOption o (IsTrue b) Said → b ≡ is_above (option_map at (option_copied o)) m
above m None b Said f h = h
above m (Some r) b Said f h = f r h

pub returns : goal.returns
returns c =
    let t = c.args.self.now in
    let m = c.args.multiplexor in
    above m c.last.result c.is_none_or.result _ (λ r h. search rules) c.is_none_or.ensures
    ∙ ap (λ (o : Option Row). is_above (option_map at o) m) (c.last.ensures.value ∙ ap (λ (l : List Row). slice_get l (length l - 1)) c.deref.ensures.0)
    ∙ ap (λ (o : Option Multiplexor). is_above o m) (sym (last_row t.bytes.items t.rows.items))
