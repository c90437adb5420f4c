use Rattle.std.proofs.Common.{◌≡◌, Some, Err, sym, ap, ◌∙◌, arith}
use Rattle.std.proofs.lemmas.Result.{err_from_is_err_and}
use Rattle.dictionary.specs.Commits.{decided}
use Rattle.dictionary.specs.Refusals.{code_of}
use Rattle.dictionary.specs.Verdicts.{read_verdict}
use Rattle.dictionary.proofs.Copying.{read_refused}
use Rattle.node.proofs.buffer.Buffer.load.Goals as goal

pub returns-in_err-self-inside : goal.returns-in_err-self-inside
returns-in_err-self-inside g c =
    let d = g.D.Readable.meaning c.args.dictionary.now in
    let m = c.args.multiplexor in
    let x = c.in_err-self-inside.field-0.0 in
    let w : read_verdict d m ≡ Some (code_of x) =
    read_refused d m _ (g.D.Readable.lawful c.args.dictionary.now) (omega (arith, c.self.invariant.size)) x (sym c.in_err-self-inside.was ∙ c.copy_value.ensures.answer) in
    let p = err_from_is_err_and c.from_residual.result c.from_residual.ensures.1 in
    record {
      answer = p.1 ∙ ap (λ y. Err y) p.2 ∙ sym (ap decided w);
      after = λ h. cc;
    }
