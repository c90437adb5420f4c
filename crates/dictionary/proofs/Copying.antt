-- A copy to 1,024 bytes or more is refused by the verdict on the read alone.
use Rattle.std.proofs.Common.{◌≡◌, ℕ, ◌≤◌, List, length, Some, None, Ok, Err, Option, sym, ap, arith}
use Rattle.std.proofs.lemmas.Bool.{le-ltb}
use Rattle.wire.specs.declared.abort_code.AbortCode.{AbortCode}
use Rattle.wire.specs.declared.multiplexor.Multiplexor.{Multiplexor}
use Rattle.dictionary.specs.declared.refusal.CopyRefusal.{CopyRefusal}
use Rattle.dictionary.specs.declared.refusal.CopyRefusal.TheVariants.{Verdict}
use Rattle.dictionary.specs.Entries.{Entry, Lawful}
use Rattle.dictionary.specs.Questions.{value_at, copy_refusal, copied_or, copied}
use Rattle.dictionary.specs.Refusals.{code_of}
use Rattle.dictionary.specs.Verdicts.{read_verdict}
use Rattle.dictionary.proofs.Bounds.{value_bounded}

pub read_refused : (d : List Entry) (m : Multiplexor) (n : ℕ) → Lawful d → 1024 ≤ n → (x : CopyRefusal) → Err x ≡ copied d m n → read_verdict d m ≡ Some (code_of x)
read_refused d m n l room x h = by (read_verdict d m) h
  where
    by : (w : Option AbortCode) → Err x ≡ copied_or (copy_refusal w n (length (value_at d m))) (length (value_at d m)) → w ≡ Some (code_of x)
    by None e =
        let fits = le-ltb n (length (value_at d m)) (omega (arith, value_bounded d m l)) in
        let ok : Err x ≡ Ok (length (value_at d m)) = rw fits at e in cc
    by (Some c) e = let same : x ≡ Verdict c = cc in ap (λ y. Some (code_of y)) (sym same)
