use Rattle.std.specs.Prelude.{MatchOption, MatchResult}
use Rattle.std.specs.Result.{IsErrAnd}
use Rattle.std.proofs.Common.{◌≡◌, ℕ, Some, None, Ok, Err, Option, Result, sym, arith, ap, ◌∙◌, rules}
use Rattle.wire.specs.declared.multiplexor.Multiplexor.{Multiplexor}
use Rattle.wire.specs.declared.abort_code.AbortCode.{AbortCode}
use Rattle.dictionary.specs.declared.table.Table.{Table}
use Rattle.dictionary.specs.Places.{place_at}
use Rattle.dictionary.specs.Questions.{absence}
use Rattle.dictionary.specs.Tables.{table_entries, Stands, Absent}
use Rattle.dictionary.proofs.Presence.{absent_from}
use Rattle.dictionary.proofs.TableFacts.{stands}
use Rattle.dictionary.proofs.table.Table.find.Goals as goal

found : (t : Table) (m : Multiplexor) (o : Option ℕ) (r : Result ℕ AbortCode) (Said : AbortCode → Type 0) → o ≡ place_at m (table_entries t) → ((c : AbortCode) → Said c → c ≡ absence (table_entries t) m) → MatchOption o (IsErrAnd r Said) (λ i. r ≡ Ok i) → MatchResult r (λ i. Stands t m i) (λ c. Absent t m c)
found t m (Some i) (Ok j) Said e f h = stands t m j (sym e ∙ ap Some cc)
found t m (Some i) (Err c) Said e f h = grind arith
found t m None (Ok j) Said e f h = absurd h
found t m None (Err c) Said e f h = record { none = absent_from m (table_entries t) 0 (sym e); why = f c h }

pub returns : goal.returns
returns c =
    let t = c.args.self.now in
    let m = c.args.multiplexor in
    found t m c.place.result _ _ c.place.ensures (λ x h. search rules) c.ok_or_else.ensures.cases
