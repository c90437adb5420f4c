use Rattle.std.proofs.Common.{ℕ, ◌-◌, [], ◌∷◌, ◌++◌, length, replicate, ap, ◌∙◌, arith, length-append}
use Rattle.std.proofs.lemmas.List.{length-replicate}
use Rattle.dictionary.proofs.Appending.{free, table_extended, table_appended}
use Rattle.dictionary.proofs.Storing.{entries_along, laid_along}
use Rattle.dictionary.proofs.table.Table.append.Goals as goal

pub reserve-requires : goal.reserve-requires
reserve-requires c =
    let f = free c.args.self.now c.args.multiplexor c.args.attributes c.args.value.now c.requires in record { short = f.short; bounded = f.bounded; room = f.room }

pub push-requires : goal.push-requires
push-requires c =
    let f = free c.args.self.now c.args.multiplexor c.args.attributes c.args.value.now c.requires in (omega arith, f.row)

pub invariant_of-self-clause-layout : goal.invariant_of-self-clause-layout
invariant_of-self-clause-layout c =
    let t = c.args.self.now in
    let m = c.args.multiplexor in
    let a = c.args.attributes in
    let v = c.args.value.now in
    let f = free t m a v c.requires in
    let rows = c.push.ensures.items ∙ ap (λ (n : ℕ). t.rows.items ++ (record { multiplexor = m; attributes = a; start = n; length = length v }) ∷ []) c.len-start.ensures.value in
    let zeros = length-replicate {A = ℕ} (a.longest - length v) 0 in
    laid_along c.reserve.ensures rows (table_extended t m a v f (replicate (a.longest - length v) 0) (omega arith))

pub returns : goal.returns
returns c =
    let t = c.args.self.now in
    let m = c.args.multiplexor in
    let a = c.args.attributes in
    let v = c.args.value.now in
    let f = free t m a v c.requires in
    let rows = c.push.ensures.items ∙ ap (λ (n : ℕ). t.rows.items ++ (record { multiplexor = m; attributes = a; start = n; length = length v }) ∷ []) c.len-start.ensures.value in
    entries_along c.reserve.ensures rows ∙ table_appended t m a v f (replicate (a.longest - length v) 0)

pub invariant_of-self-clause-bounds : goal.invariant_of-self-clause-bounds
invariant_of-self-clause-bounds c =
    let f = free c.args.self.now c.args.multiplexor c.args.attributes c.args.value.now c.requires in
    let rows = simp length-append at (ap length c.push.ensures.items) in
    let bytes = simp (length-append, length-replicate) at (ap length c.reserve.ensures) in
    (omega arith, omega arith)
