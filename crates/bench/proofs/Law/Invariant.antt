-- What holds of a bench between two calls, beside the account that is kept of its calls.
use Rattle.std.proofs.Common.{◌≡◌, ℕ, ◌+◌, ◌≤◌, Bool, true, false, ◌⊎◌, List, [], ◌∷◌, ◌++◌, length, Some, None, Ok, Option, Result}
use Rattle.wire.specs.declared.frame.Frame.{Frame}
use Rattle.wire.specs.declared.multiplexor.Multiplexor.{Multiplexor}
use Rattle.wire.specs.declared.abort_code.AbortCode.{AbortCode}
use Rattle.sdo.specs.Fits.{Indexed}
use Rattle.sdo.specs.Requests as request
use Rattle.sdo.specs.Frames.{request_frame}
use Rattle.dictionary.specs.Entries.{Entry, Lawful}
use Rattle.dictionary.specs.Verdicts.{write_verdict}
use Rattle.master.specs.declared.method.Method.{Method}
use Rattle.master.specs.declared.phase.Awaiting.{Awaiting}
use Rattle.master.specs.declared.phase.Aborted.{Aborted}
use Rattle.master.specs.declared.phase.Phase.TheVariants.{Idle, Open, Over}
use Rattle.master.specs.Limits.{most_transfers, rest_ticks}
use Rattle.master.specs.States as master
use Rattle.master.specs.Calls.{Started, Write, begin}
use Rattle.master.specs.Laws.{is_open}
use Rattle.master.specs.Runs as calls
use Rattle.node.specs.States.{is_idle}
use Rattle.master.specs.declared.direction.Direction.{Direction}
use Rattle.master.specs.declared.direction.Direction.TheVariants as way
use Rattle.bench.specs.Model.States.{State}
use Rattle.bench.specs.Law.Books.{Note, set_if}
use Rattle.bench.specs.Law.Watches.{Watch}
use Rattle.bench.specs.Law.Law.{Account}
use Rattle.bench.proofs.Law.Exchange.{verdict, Flight}
use Rattle.bench.proofs.Law.Outcomes.{Ended, EndsBy}

-- the note of the transfer that a master has begun
abbrev pub noted_value : Direction → master.State → Option (List ℕ)
noted_value way.Upload M = None
noted_value way.Download M = Some M.value

abbrev pub note_of : Direction → master.State → Note
note_of dir M = record { multiplexor = M.multiplexor; value = noted_value dir M }

abbrev pub one_if_noted : Option Note → ℕ
one_if_noted None = 0
one_if_noted (Some n) = 1

-- at most an abort of the master waits for the node
abbrev pub OnlyAbort : master.State → List Frame → Type 0
OnlyAbort M fs = (fs ≡ []) ⊎ ((m : Multiplexor) × (c : AbortCode) × (fs ≡ request_frame M.node (request.Abort m c) ∷ []))

-- no transfer is open: the node is idle, or it will be before the master's rest is over
pub record Calm (s : State) : Type 0 where
  pub waiting : OnlyAbort s.master s.line.to_node
  pub idle_in_time : (is_idle s.node.activity ≡ true) ⊎ ((rest_ticks ≤ s.node.ticks + s.master.rest) × (s.node.ticks ≤ 24))

-- by the master's phase: the note, and whether the value was set that it may speak of; d is the dictionary at the begin
pub data Stage (d : List Entry) (s : State) (w : Watch) : Option Note → Bool → Type 0 where
  rests : s.master.phase ≡ Idle → Calm s → w.is_open ≡ false → Stage d s w None false
  flies : (u : Awaiting) (ahead : Bool) → s.master.phase ≡ Open u → s.master.ticks ≤ 9 → w.is_open ≡ true → w.ticks ≡ s.master.ticks → w.before ≡ d → w.lost_before_over ≡ None → Flight d s u ahead → Stage d s w (Some (note_of s.master.direction s.master)) ahead
  over : (e : Result (Unit {0}) Aborted) (ahead : Bool) → s.master.phase ≡ Over e → Calm s → w.is_open ≡ false → w.before ≡ d → Ended d s.master s.master.direction ahead e → (w.lost_before_over ≡ Some false → EndsBy e (verdict s.master.direction d s.master)) → Stage d s w (Some (note_of s.master.direction s.master)) ahead

-- the frames that the master has sent in its latest transfer: those of a write by its run since the begin, and few of a read
pub data Counted (frames : ℕ) (dir : Direction) (M : master.State) : Type 0 where
  few : is_open M.phase ≡ false → frames ≤ 149 → Counted frames dir M
  of_read : dir ≡ way.Upload → frames ≤ M.highest + 1 → M.highest ≤ 147 → Counted frames dir M
  of_write : (K : master.State) (m : Multiplexor) (how : Method) (v : List ℕ) (x : Started) (fs : List Frame) (n : ℕ) → (begin K m (Write how v)).answer ≡ Ok x → calls.Run (begin K m (Write how v)).next fs n M → frames ≡ length (x.sending.frames ++ fs) → Counted frames dir M

-- a value that was set goes to the entry of a write, and nothing speaks against it
abbrev pub Allowed : List Entry → State → Bool → Type 0
Allowed d s ahead = ahead ≡ true → (s.master.direction ≡ way.Download) × (write_verdict d s.master.multiplexor s.master.value ≡ None)

-- what there is beside the stage
pub record Base (a : Account) (s : State) (ahead : Bool) : Type 0 where
  pub lawful : Lawful a.book.dictionary
  pub indexed : Indexed s.master.multiplexor
  pub same : s.node.number ≡ s.master.node
  pub allowed : Allowed a.book.dictionary s ahead
  pub dictionary : s.dictionary ≡ (set_if ahead a.book).dictionary
  pub count : s.node.commits ≡ (set_if ahead a.book).number
  pub number : a.book.number + one_if_noted a.book.note ≤ s.master.begun
  pub begun : s.master.begun ≤ most_transfers
  pub frames : Counted a.watch.frames s.master.direction s.master

pub record Inv (a : Account) (s : State) : Type 0 where
  pub ahead : Bool
  pub base : Base a s ahead
  pub stage : Stage a.book.dictionary s a.watch a.book.note ahead
