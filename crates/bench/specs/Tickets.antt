-- The ticket that is out: after a begin, and when it is settled.
use Rattle.std.specs.Prelude.{◌≡◌, ℕ, Bool, List, Some, None, Ok, Err, Option, Result}
use Rattle.master.specs.declared.refusal.BeginRefusal.{BeginRefusal}
use Rattle.report.specs.declared.refusal.SettleRefusal.{SettleRefusal}
use Rattle.report.specs.declared.report.Report.{Report}
use Rattle.bench.specs.Model.States.{State}
use Rattle.bench.specs.Model.Calls.{settle_answer, settle_buffer, settle_frames, settle_step}
use Rattle.bench.specs.Law.Runs.{Settle}
use Rattle.bench.specs.Law.Law.{KeepsLaw}

-- the ticket that is out after a begin
abbrev pub held_after : Result ℕ BeginRefusal → Option ℕ → Option ℕ
held_after (Ok k) held = Some k
held_after (Err e) held = held

-- what settle answers, told without the ticket that it hands back
abbrev pub without_ticket : Result Report (ℕ × SettleRefusal) → Result Report SettleRefusal
without_ticket (Ok r) = Ok r
without_ticket (Err refused) = Err refused.1

-- the ticket that is held is settled, if one is: the answer, the buffer and the bench are then as settling leaves them, and the law holds with it
abbrev pub SettlesHeld : Option ℕ → Option (Result Report SettleRefusal) → List ℕ → List ℕ → State → State → Type 0
SettlesHeld None r buffer after s t = (r ≡ None) × (after ≡ buffer) × (t ≡ s)
SettlesHeld (Some k) None buffer after s t = ⊥
SettlesHeld (Some k) (Some r) buffer after s t = (r ≡ settle_answer k buffer s) × (after ≡ settle_buffer k buffer s) × ((ls : List Bool) × (t ≡ settle_step k buffer ls s)) × KeepsLaw (Settle k buffer r after) (settle_frames k buffer s) s t
