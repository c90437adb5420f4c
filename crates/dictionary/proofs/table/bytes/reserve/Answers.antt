use Rattle.std.proofs.Common.{◌≡◌, ℕ, ◌-◌, ◌≤◌, List, ◌++◌, length, take, replicate, append_assoc, ap, ◌∙◌, arith}
use Rattle.std.proofs.lemmas.List.{take-replicate}
use Rattle.std.proofs.lemmas.Result.{IfOk-at_ok}
use Rattle.dictionary.proofs.table.bytes.reserve.Goals as goal

pub returns : goal.returns
returns c =
    let b = c.args.bytes.now.items in
    let v = c.args.value.now in
    let n = c.from.result - length v in
    let zeros : List ℕ = replicate (c.args.longest - length v) 0 in
    let first = IfOk-at_ok (λ _. c.try_extend_from_slice.new.self.items ≡ b ++ v) c.unwrap.ensures c.try_extend_from_slice.ensures.ok in
    let second = IfOk-at_ok (λ _. c.try_extend_from_slice-2.new.self.items ≡ c.try_extend_from_slice.new.self.items ++ take n (replicate 1024 0)) c.unwrap-2.ensures c.try_extend_from_slice-2.ensures.ok in
    let few : n ≤ 1024 = omega arith in
    let spare = take-replicate n 1024 0 few ∙ ap (λ (k : ℕ). replicate (k - length v) 0) c.from.ensures in
    second ∙ ap (λ (l : List ℕ). l ++ take n (replicate 1024 0)) first ∙ ap (λ (l : List ℕ). (b ++ v) ++ l) spare ∙ append_assoc b v zeros
