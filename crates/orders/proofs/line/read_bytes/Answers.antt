use Rattle.std.proofs.Common.{◌≡◌, ◌<◌, length, None, Some, ◌∙◌, arith, rules}
use Rattle.std.proofs.lemmas.Grind.{common_steps}
use Rattle.orders.specs.Hex.{byte_in}
use Rattle.orders.specs.Lines.{longest}
use Rattle.orders.proofs.Values.{left_bad, left_full, left_more, left_none, value_all}
use Rattle.orders.proofs.line.read_bytes.Goals as goal

pub returns-in_err-byte : goal.returns-in_err-byte
returns-in_err-byte g c = λ ws all.
    let bad : byte_in c.in-Some.word.now ≡ None = grind (arith, common_steps) in
    let meant = left_bad (c.loop-word.invariant.2 ws (record { runs = all })) c.in-Some.ensures.steps bad in
    grind (arith, common_steps)

pub returns-in_err-map_err : goal.returns-in_err-map_err
returns-in_err-map_err g c = λ ws all.
    let good : byte_in c.in-Some.word.now ≡ Some c.in_ok-byte.byte = grind (arith, common_steps) in
    let full : length c.loop-word.bytes.items ≡ longest = grind (arith, common_steps) in
    let meant = left_full (c.loop-word.invariant.2 ws (record { runs = all })) c.in-Some.ensures.steps good full in
    grind (arith, common_steps)

pub loop-word-preserved : goal.loop-word-preserved
loop-word-preserved g c =
    let good : byte_in c.in-Some.word.now ≡ Some c.in_ok-byte.byte = grind (arith, common_steps) in
    let room : length c.loop-word.bytes.items < longest = grind (arith, common_steps) in (
      search rules,
      search rules,
      λ ws all.
          let more = left_more (c.loop-word.invariant.2 ws all) c.in-Some.ensures.steps good (λ e. omega arith) in
          grind (arith, common_steps),
    )

pub returns : goal.returns
returns g c = λ ws all.
    let some : 0 < length c.loop-word.bytes.items = grind (arith, common_steps) in
    let meant = left_none (c.loop-word.invariant.2 ws (record { runs = all })) c.in-None.ensures.steps ∙ value_all _ some in
    grind (arith, common_steps)
