-- What the law says of one transfer on a new bench, sentence by sentence: what each report means, and which report cannot be.
-- The transfer is begun, a hear tells that it is over, and it is settled. What is served is in no book, and left out here.
use Rattle.std.specs.Prelude.{◌≡◌, ℕ, ◌≤◌, Bool, false, ◌⊎◌, List, [], ◌∷◌, length, take, drop, None, Some, Ok}
use Rattle.wire.specs.declared.frame.Frame.{Frame}
use Rattle.wire.specs.declared.multiplexor.Multiplexor.{Multiplexor}
use Rattle.dictionary.specs.Entries.{Entry, put}
use Rattle.dictionary.specs.Laws.{There}
use Rattle.dictionary.specs.Questions.{value_at}
use Rattle.dictionary.specs.Verdicts.{read_verdict, write_verdict}
use Rattle.master.specs.declared.heard.Heard.TheVariants.{Over}
use Rattle.master.specs.declared.method.Method.{Method}
use Rattle.master.specs.Calls.{Order, Read, Write}
use Rattle.report.specs.declared.report.Failure.{Failure}
use Rattle.report.specs.declared.report.Outcome.{Outcome}
use Rattle.report.specs.declared.report.Outcome.TheVariants as report
use Rattle.bench.specs.Model.Lines.{Losses}
use Rattle.bench.specs.Law.Runs.{Begin, Hear, Settle, Event}
use Rattle.bench.specs.Law.Law.{Law}

-- an order at a multiplexor, begun with some frames; what the line loses in each of the three calls;
-- whether it had lost a frame when the master heard that the transfer is over; what the report tells, and the buffer before and after the settle
abbrev pub transfer : Multiplexor → Order → List Frame → Losses × Losses × Losses → Bool → Outcome → List ℕ → List ℕ → List Event
transfer m o fs ls lost r before after =
    record { act = Begin m o (Ok 1); lost = false; sent = fs; losses = ls.0 }
    ∷ record { act = Hear Over; lost = lost; sent = []; losses = ls.1 }
    ∷ record { act = Settle 1 before (Ok (record { outcome = r })) after; lost = lost; sent = []; losses = ls.2 }
    ∷ []

-- the dictionary is as it was, and nothing was counted
abbrev pub Untouched : List Entry → List Entry → ℕ → Type 0
Untouched d now commits = (now ≡ d) × (commits ≡ 0)

-- an entry that is there has its value, and one commit was counted
abbrev pub SetOnce : Multiplexor → List ℕ → List Entry → List Entry → ℕ → Type 0
SetOnce m v d now commits = There d m × (now ≡ put m v d) × (commits ≡ 1)

-- by the first dictionary and the one now, the commit count, where the transfer went, its frames, the losses and the buffer
pub record Sentences (d now : List Entry) (commits : ℕ) (m : Multiplexor) (fs : List Frame) (ls : Losses × Losses × Losses) (lost : Bool) (before after : List ℕ) : Type 0 where
  pub written : (how : Method) (v : List ℕ) → Law d (transfer m (Write how v) fs ls lost report.Written before after) now commits → SetOnce m v d now commits
  pub unwritten : (how : Method) (v : List ℕ) (f : Failure) → Law d (transfer m (Write how v) fs ls lost (report.Unwritten f) before after) now commits → Untouched d now commits
  pub undecided : (how : Method) (v : List ℕ) (f : Failure) → Law d (transfer m (Write how v) fs ls lost (report.Undecided f) before after) now commits → Untouched d now commits ⊎ SetOnce m v d now commits
  pub read : (n : ℕ) → Law d (transfer m Read fs ls lost (report.Read n) before after) now commits → Untouched d now commits × There d m × (take n after ≡ value_at d m) × (n ≡ length (value_at d m)) × (drop n after ≡ drop n before)
  pub unread : (f : Failure) → Law d (transfer m Read fs ls lost (report.Unread f) before after) now commits → Untouched d now commits × (after ≡ before)
  -- where nothing was lost, the report is the dictionary's verdict
  pub write_refused : (how : Method) (v : List ℕ) (f : Failure) → Law d (transfer m (Write how v) fs ls false (report.Unwritten f) before after) now commits → write_verdict d m v ≡ Some f.code
  pub write_accepted : (how : Method) (v : List ℕ) → Law d (transfer m (Write how v) fs ls false report.Written before after) now commits → write_verdict d m v ≡ None
  pub read_refused : (f : Failure) → Law d (transfer m Read fs ls false (report.Unread f) before after) now commits → read_verdict d m ≡ Some f.code
  pub read_accepted : (n : ℕ) → Law d (transfer m Read fs ls false (report.Read n) before after) now commits → read_verdict d m ≡ None
  pub no_undecided : (how : Method) (v : List ℕ) (f : Failure) → Law d (transfer m (Write how v) fs ls false (report.Undecided f) before after) now commits → ⊥
  -- a read is not told as Written, and a write not as Read
  pub no_read_written : Law d (transfer m Read fs ls lost report.Written before after) now commits → ⊥
  pub no_write_read : (how : Method) (v : List ℕ) (n : ℕ) → Law d (transfer m (Write how v) fs ls lost (report.Read n) before after) now commits → ⊥
  pub few_frames : (o : Order) (r : Outcome) → Law d (transfer m o fs ls lost r before after) now commits → length fs ≤ 1300

abbrev pub LawSays : Type 0
LawSays = (d now : List Entry) (commits : ℕ) (m : Multiplexor) (fs : List Frame) (ls : Losses × Losses × Losses) (lost : Bool) (before after : List ℕ) → Sentences d now commits m fs ls lost before after
