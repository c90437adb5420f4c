use Rattle.std.proofs.Common.{◌≡◌, length, Some, Err, sym, ap, ◌∙◌, lit≤}
use Rattle.std.proofs.lemmas.Result.{err_from_is_err_and}
use Rattle.dictionary.specs.Questions.{value_at}
use Rattle.dictionary.specs.Refusals.{code_of}
use Rattle.dictionary.specs.Verdicts.{read_verdict}
use Rattle.dictionary.proofs.Copying.{read_refused}
use Rattle.layer_tests.specs.Stations.{length_or}
use Rattle.layer_tests.proofs.station.Station.value_length.Goals as goal

pub returns-in_err-copy_value : goal.returns-in_err-copy_value
returns-in_err-copy_value g c =
    let below = c.args.self.now.dictionary in
    let d = g.D.Readable.meaning below in
    let m = c.args.multiplexor in
    let x = c.in_err-copy_value.field-0.0 in
    let short : Err x ≡ c.copy_value.result = sym c.in_err-copy_value.was in
    let w : read_verdict d m ≡ Some (code_of x) = read_refused d m 1024 (g.D.Readable.lawful below) (lit≤ tt) x (search (short, c.copy_value.ensures.answer)) in
    let p = err_from_is_err_and c.from_residual.result c.from_residual.ensures.1 in
    p.1 ∙ ap (λ y. Err y) p.2 ∙ sym (ap (λ v. length_or v (length (value_at d m))) w)
