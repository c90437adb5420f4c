use Rattle.std.proofs.Common.{◌≡◌, ℕ, Bool, List, Result, ap, ◌∙◌, rules}
use Rattle.report.specs.declared.refusal.SettleRefusal.{SettleRefusal}
use Rattle.report.specs.declared.report.Report.{Report}
use Rattle.bench.specs.Model.States.{State}
use Rattle.bench.specs.Model.Calls.{settle_answer, settle_buffer, settle_step}
use Rattle.bench.specs.Law.Runs.{Event, Happens, Settle}
use Rattle.bench.proofs.Law.Runs.{settle_happened, act_happens}
use Rattle.bench.proofs.Held.{settled_holds}
use Rattle.bench.proofs.session.Session.settle_number.Goals as goal

pub read_bytes-read-requires-clause-bound : goal.read_bytes-read-requires-clause-bound
read_bytes-read-requires-clause-bound g c n is = c.in-Ok.ensures.length n is

pub invariant_of-self : goal.invariant_of-self
invariant_of-self g c = record { own = c.take.ensures.after ∙ settled_holds _ _ _ _ _ c.in-Ok.ensures.answer c.settle.ensures.after }

-- a settle, whose ticket has the number that was asked for
told : {buffer after : List ℕ} {r : Result Report SettleRefusal} {s t : State} (number k : ℕ) → k ≡ number → r ≡ settle_answer k buffer s → after ≡ settle_buffer k buffer s → (ls : List Bool) × (t ≡ settle_step k buffer ls s) → (e : Event) × (e.act ≡ Settle number buffer r after) × Happens e s t
told {buffer} {after} {r} {s} number k is answer filled stepped =
    let made = act_happens (Settle k buffer r after) _ (settle_happened k buffer s answer filled stepped) in
    (made.0, made.1 ∙ ap (λ n. Settle n buffer r after) is, made.2)

pub returns-after-take : goal.returns-after-take
returns-after-take g c =
    let made = told c.args.number c.new.result c.new.ensures c.in-Ok.ensures.answer c.settle.ensures.buffer c.settle.ensures.after in
    (made.0, (c.settle.new.buffer, made.1, c.read_bytes-read.ensures), made.2)

pub returns-in-Err : goal.returns-in-Err
returns-in-Err g c =
    let made = told c.args.number c.new.result c.new.ensures c.in-Err.ensures.answer c.settle.ensures.buffer c.settle.ensures.after in
    (made.0, (c.settle.new.buffer, made.1, search rules), made.2)
