-- What the answers to a list of calls tell of the events that they were.
use Rattle.std.specs.Prelude.{◌≡◌, ℕ, List, [], ◌∷◌, take, replicate, Ok, Err, Result}
use Rattle.master.specs.Calls as order
use Rattle.report.specs.declared.refusal.SettleRefusal.{SettleRefusal}
use Rattle.report.specs.declared.report.Outcome.{Outcome}
use Rattle.report.specs.declared.report.Outcome.TheVariants.{Written, Read, Unwritten, Undecided, Unread}
use Rattle.report.specs.declared.report.Report.{Report}
use Rattle.bench.specs.Law.Runs as law
use Rattle.bench.specs.Law.Runs.{Event}
use Rattle.bench.specs.declared.call.Call.{Call}
use Rattle.bench.specs.declared.call.Call.TheVariants.{BeginRead, BeginWrite, Serve, Hear, Tick, Settle}
use Rattle.bench.specs.declared.response.Response.{Response}
use Rattle.bench.specs.declared.response.Response.TheVariants.{Begun, Served, Heard, Ticked, Settled}

-- the bytes of a read, which are at the buffer's front
abbrev pub read_by : Outcome → List ℕ → List ℕ
read_by (Read n) after = take n after
read_by Written after = []
read_by (Unwritten f) after = []
read_by (Undecided f) after = []
read_by (Unread f) after = []

abbrev pub read_in : Result Report SettleRefusal → List ℕ → List ℕ
read_in (Ok r) after = read_by r.outcome after
read_in (Err e) after = []

-- a settle of a ticket's number with a buffer: the report, and the bytes that a read has put into the buffer
abbrev pub IsSettle : ℕ → List ℕ → Response → law.Act → Type 0
IsSettle k buffer (Settled report read) c = (after : List ℕ) × (c ≡ law.Settle k buffer report after) × (read.items ≡ read_in report after)
IsSettle k buffer a c = ⊥

-- a call, and the answer to it, as one call of a run
abbrev pub IsAct : Call → Response → law.Act → Type 0
IsAct (BeginRead m) (Begun r) c = c ≡ law.Begin m order.Read r
IsAct (BeginWrite how m v) (Begun r) c = c ≡ law.Begin m (order.Write how v.now) r
IsAct Serve (Served r) c = c ≡ law.Serve r
IsAct Hear (Heard r) c = c ≡ law.Hear r
IsAct Tick (Ticked r) c = c ≡ law.Tick r
IsAct (Settle k room) a c = IsSettle k (replicate room 0) a c
IsAct d a c = ⊥

-- each call has its answer and its event, in their order
abbrev pub Tied : List Call → List Response → List Event → Type 0
Tied [] [] [] = Unit {0}
Tied (d ∷ ds) (a ∷ answers) (e ∷ es) = IsAct d a e.act × Tied ds answers es
Tied ds answers es = ⊥
