use Rattle.std.proofs.Common.{◌≡◌, true, false, Some, None, Err, sym, ap, subst, ◌∙◌, inl, arith, rules}
use Rattle.std.specs.Prelude.{is_none}
use borrow.Author.Tests.{tests}
use Rattle.std.proofs.lemmas.Grind.{common_steps}
use Rattle.std.proofs.lemmas.Result.{err_from_is_err_and}
use Rattle.orders.specs.declared.fault.Fault.TheVariants.{NotMultiplexor}
use Rattle.orders.specs.Hex.{multiplexor_in}
use Rattle.orders.specs.Lines.{ReadsOrder, order_in, order_at}
use Rattle.orders.specs.Methods.{method_named}
use Rattle.orders.proofs.Comes.{comes_none}
use Rattle.orders.proofs.Cuts.{words_come}
use Rattle.orders.proofs.Named.{behind_none, behind_name, name_alone}
use Rattle.orders.proofs.line.read_order.Goals as goal

pub returns-in_default : goal.returns-in_default
returns-in_default c =
    let told = c.split.ensures in
    ap order_in (comes_none _ (words_come _ _ _ c.filter-words.ensures.source told.rest told.done told.closure c.filter-words.ensures.closure (λ x b q k. search (rules, tests)) (λ x b q k. search (rules, tests))) c.in_default.ensures.steps)

pub returns-in_err-read_rest : goal.returns-in_err-read_rest
returns-in_err-read_rest c =
    let told = c.split.ensures in
    let none : is_none (method_named c.in-Some.first.now) ≡ true = grind (arith, common_steps) in
    let rest = behind_none {t = c.next.new.self} (words_come _ _ _ c.filter-words.ensures.source told.rest told.done told.closure c.filter-words.ensures.closure (λ x b q k. search (rules, tests)) (λ x b q k. search (rules, tests))) c.in-Some.ensures.steps none in
    let p = err_from_is_err_and c.from_residual.result c.from_residual.ensures.1 in
    let read = subst (λ r. ReadsOrder r (order_at None (multiplexor_in c.in-Some.first.now) rest.words)) c.in_err-read_rest.was (c.read_rest.ensures rest.words rest.come.runs) in
    rw (p.1, p.2) (subst (ReadsOrder (Err c.in_err-read_rest.field-0.0)) (sym rest.meant) read)

pub returns-then-is_none : goal.returns-then-is_none
returns-then-is_none c =
    let told = c.split.ensures in
    let none : is_none (method_named c.in-Some.first.now) ≡ true = grind (arith, common_steps) in
    let rest = behind_none {t = c.next.new.self} (words_come _ _ _ c.filter-words.ensures.source told.rest told.done told.closure c.filter-words.ensures.closure (λ x b q k. search (rules, tests)) (λ x b q k. search (rules, tests))) c.in-Some.ensures.steps none in
    rest.meant ∙ subst (λ r. ReadsOrder r (order_at None (multiplexor_in c.in-Some.first.now) rest.words)) c.in_ok-read_rest.was (c.read_rest.ensures rest.words rest.come.runs)

pub returns-in_err-second : goal.returns-in_err-second
returns-in_err-second c =
    let told = c.split.ensures in
    let some : is_none (method_named c.in-Some.first.now) ≡ false = grind (arith, common_steps) in
    let gone : c.next-2.result ≡ None = grind (arith, common_steps) in
    let why : c.in_err-second.field-0.0 ≡ NotMultiplexor = grind (arith, common_steps) in
    let p = err_from_is_err_and c.from_residual-in_err-second.result c.from_residual-in_err-second.ensures.1 in
    rw (p.1, p.2, why) (inl (name_alone {t = c.next.new.self} (words_come _ _ _ c.filter-words.ensures.source told.rest told.done told.closure c.filter-words.ensures.closure (λ x b q k. search (rules, tests)) (λ x b q k. search (rules, tests))) c.in-Some.ensures.steps {u = c.next-2.new.self} c.next-2.result c.next-2.ensures.steps gone some))

pub returns-in_err-read_rest-2 : goal.returns-in_err-read_rest-2
returns-in_err-read_rest-2 c =
    let told = c.split.ensures in
    let some : is_none (method_named c.in-Some.first.now) ≡ false = grind (arith, common_steps) in
    let there : c.next-2.result ≡ Some c.in_ok-second.second = grind (arith, common_steps) in
    let rest = behind_name {t = c.next.new.self} (words_come _ _ _ c.filter-words.ensures.source told.rest told.done told.closure c.filter-words.ensures.closure (λ x b q k. search (rules, tests)) (λ x b q k. search (rules, tests))) c.in-Some.ensures.steps {u = c.next-2.new.self} c.next-2.result c.next-2.ensures.steps there some in
    let p = err_from_is_err_and c.from_residual-in_err-read_rest-2.result c.from_residual-in_err-read_rest-2.ensures.1 in
    let read = subst (λ r. ReadsOrder r (order_at c.read_method-named.result (multiplexor_in c.in_ok-second.second.now) rest.words)) c.in_err-read_rest-2.was (c.read_rest-2.ensures rest.words rest.come.runs) in
    let same = ap (λ n. order_at n (multiplexor_in c.in_ok-second.second.now) rest.words) c.read_method-named.ensures in
    rw (p.1, p.2) (subst (ReadsOrder (Err c.in_err-read_rest-2.field-0.0)) (same ∙ sym rest.meant) read)

pub returns : goal.returns
returns c =
    let told = c.split.ensures in
    let some : is_none (method_named c.in-Some.first.now) ≡ false = grind (arith, common_steps) in
    let there : c.next-2.result ≡ Some c.in_ok-second.second = grind (arith, common_steps) in
    let rest = behind_name {t = c.next.new.self} (words_come _ _ _ c.filter-words.ensures.source told.rest told.done told.closure c.filter-words.ensures.closure (λ x b q k. search (rules, tests)) (λ x b q k. search (rules, tests))) c.in-Some.ensures.steps {u = c.next-2.new.self} c.next-2.result c.next-2.ensures.steps there some in
    let same = ap (λ n. order_at n (multiplexor_in c.in_ok-second.second.now) rest.words) c.read_method-named.ensures in
    rest.meant ∙ sym same ∙ subst (λ r. ReadsOrder r (order_at c.read_method-named.result (multiplexor_in c.in_ok-second.second.now) rest.words)) c.in_ok-read_rest-2.was (c.read_rest-2.ensures rest.words rest.come.runs)
