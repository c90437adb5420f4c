use Rattle.std.proofs.Common.{◌<◌, ◌+◌, ◌^◌, ◌++◌, length, map, ap, ◌∙◌, arith, rules}
use borrow.Author.Tests.{tests}
use Rattle.std.specs.Iterator.Adapters.{zip_second}
use Rattle.std.specs.List.{slice_split}
use Rattle.std.proofs.lemmas.List.Splits.{length-slice_split}
use Rattle.std.proofs.lemmas.List.Sums.{count_by-le-length}
use Rattle.std.proofs.lemmas.Iterator.Consumers.{YieldsList-at}
use Rattle.std.proofs.lemmas.Iterator.Splits.{YieldsList-from_slice_split}
use Rattle.orders.specs.Pieces.{is_line_end}
use Rattle.orders.specs.Texts.{content, orders_in, bad_in}
use Rattle.orders.proofs.Comes.{come_numbered}
use Rattle.orders.proofs.Cuts.{orders_split, bad_split}
use Rattle.orders.proofs.Turns.{one_more, all_orders, all_bad}
use Rattle.orders.proofs.reading.read_orders.Goals as goal

pub loop-number-init : goal.loop-number-init
loop-number-init c =
    let text = c.args.text.now in
    let told = c.split.ensures in
    let fits : 1 + length (slice_split is_line_end text) < 2 ^ 64 = omega (arith, length-slice_split is_line_end text, count_by-le-length is_line_end text) in
    record {
      number = 1;
      rest = slice_split is_line_end text;
      come = come_numbered 1 (slice_split is_line_end text) _ (cc) (YieldsList-at {t = c.split.result} (ap zip_second c.into_iter-number-iterator.ensures.into_iter_gives ∙ c.zip-number-items.ensures.second) (YieldsList-from_slice_split _ is_line_end text told.rest told.done told.closure (λ x b q k. search (rules, tests)))) fits;
      orders = ap (λ os. map content os ++ orders_in (slice_split is_line_end text)) c.new.ensures.items ∙ orders_split text;
      bad = ap (λ bs. bs ++ bad_in 1 (slice_split is_line_end text)) c.new-2.ensures.items ∙ bad_split text;
    }

pub loop-number-preserved : goal.loop-number-preserved
loop-number-preserved c = one_more {t = c.next.new.self} c.loop-number.invariant {line = c.in-Some.line} {y = c.add_line.new.self} c.in-Some.ensures.steps c.in_ok-add_line.ensures

pub returns : goal.returns
returns c = record {
  orders = all_orders {t = c.next.new.self} c.loop-number.invariant c.in-None.ensures.steps;
  bad = all_bad {t = c.next.new.self} c.loop-number.invariant c.in-None.ensures.steps;
}
