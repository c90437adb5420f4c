-- The law over every run of a bench, in the words of one who sees its calls and not its ends.
use Rattle.std.specs.Prelude.{◌≡◌, ℕ, ◌+◌, ◌≤◌, Bool, false, ◌&&◌, List, [], ◌∷◌, ◌++◌, length, take, drop, map, Some, None, Ok, Err, Option, ◌==◌}
use Rattle.wire.specs.declared.frame.Frame.{Frame}
use Rattle.wire.specs.declared.multiplexor.Multiplexor.{Multiplexor}
use Rattle.wire.specs.declared.abort_code.AbortCode.{AbortCode}
use Rattle.wire.specs.declared.node_number.NodeNumber.{NodeNumber}
use Rattle.sdo.specs.Blocks.{BlockSize}
use Rattle.dictionary.specs.Entries.{Entry, Lawful}
use Rattle.dictionary.specs.Laws.{There}
use Rattle.dictionary.specs.Questions.{value_at}
use Rattle.dictionary.specs.Verdicts.{read_verdict, write_verdict}
use Rattle.report.specs.declared.report.Outcome.{Outcome}
use Rattle.report.specs.declared.report.Outcome.TheVariants.{Written, Read, Unwritten, Undecided, Unread}
use Rattle.bench.specs.Model.Lines.{Losses}
use Rattle.bench.specs.Model.States.{State, fresh}
use Rattle.bench.specs.Law.Runs.{Act, Begin, Serve, Hear, Tick, Settle, Event, event, Run}
use Rattle.bench.specs.Law.Books.{Note, Book, new_book, set_if, tells_set, entered, SetsThere}
use Rattle.bench.specs.Law.Watches.{Watch, asleep, watched}

-- an event, and what is said of it if it is the report of a write as Undecided: whether the value was set
pub record Witnessed : Type 0 where
  pub event : Event
  pub set : Bool

-- the book and the watch after some events
pub record Account : Type 0 where
  pub book : Book
  pub watch : Watch

abbrev pub first : List Entry → Account
first d = record { book = new_book d; watch = asleep d }

abbrev pub accounted : Witnessed → Account → Account
accounted e a = record { book = entered e.set e.event.act a.book; watch = watched e.event.act e.event.lost e.event.sent a.book.dictionary a.watch }

abbrev pub account : List Witnessed → Account → Account
account [] a = a
account (e ∷ es) a = account es (accounted e a)

-- Each value that is set has its entry. Each Read gave the bytes that its entry held when it was settled, at the buffer's front;
-- all that lies behind them, and the whole buffer where there is no Read, is as it was.

abbrev pub Sets : Bool → Act → Book → Type 0
Sets said (Begin m o r) b = Unit {0}
Sets said (Serve r) b = Unit {0}
Sets said (Hear r) b = Unit {0}
Sets said (Tick r) b = Unit {0}
Sets said (Settle k buffer (Ok r) after) b = SetsThere (tells_set said r.outcome) b
Sets said (Settle k buffer (Err e) after) b = Unit {0}

pub record Gives (n : ℕ) (buffer after : List ℕ) (b : Book) : Type 0 where
  pub multiplexor : Multiplexor
  pub noted : b.note ≡ Some (record { multiplexor = multiplexor; value = None })
  pub there : There b.dictionary multiplexor
  pub bytes : take n after ≡ value_at b.dictionary multiplexor
  pub behind : drop n after ≡ drop n buffer
  pub number : n ≡ length (value_at b.dictionary multiplexor)

abbrev pub GivenBy : Outcome → List ℕ → List ℕ → Book → Type 0
GivenBy Written buffer after b = after ≡ buffer
GivenBy (Read n) buffer after b = Gives n buffer after b
GivenBy (Unwritten f) buffer after b = after ≡ buffer
GivenBy (Undecided f) buffer after b = after ≡ buffer
GivenBy (Unread f) buffer after b = after ≡ buffer

abbrev pub Reads : Act → Book → Type 0
Reads (Begin m o r) b = Unit {0}
Reads (Serve r) b = Unit {0}
Reads (Hear r) b = Unit {0}
Reads (Tick r) b = Unit {0}
Reads (Settle k buffer (Ok r) after) b = GivenBy r.outcome buffer after b
Reads (Settle k buffer (Err e) after) b = after ≡ buffer

-- Where hearing ended a transfer and nothing was lost until then, the report is that of the dictionary at the begin:
-- success without a verdict, else a failure by its code, and never Undecided.

abbrev pub verdict_of : Option (List ℕ) → Multiplexor → List Entry → Option AbortCode
verdict_of None m d = read_verdict d m
verdict_of (Some v) m d = write_verdict d m v

abbrev pub verdict_on : Note → List Entry → Option AbortCode
verdict_on n d = verdict_of n.value n.multiplexor d

-- a report is that of a verdict, or of none
abbrev pub TellsVerdict : Outcome → Option AbortCode → Type 0
TellsVerdict Written v = v ≡ None
TellsVerdict (Read n) v = v ≡ None
TellsVerdict (Unwritten f) v = v ≡ Some f.code
TellsVerdict (Undecided f) v = ⊥
TellsVerdict (Unread f) v = v ≡ Some f.code

pub record Judged (r : Outcome) (b : Book) (w : Watch) : Type 0 where
  pub note : Note
  pub noted : b.note ≡ Some note
  pub verdict : TellsVerdict r (verdict_on note w.before)

abbrev pub Verdict : Act → Book → Watch → Type 0
Verdict (Begin m o r) b w = Unit {0}
Verdict (Serve r) b w = Unit {0}
Verdict (Hear r) b w = Unit {0}
Verdict (Tick r) b w = Unit {0}
Verdict (Settle k buffer (Ok r) after) b w = w.lost_before_over ≡ Some false → Judged r.outcome b w
Verdict (Settle k buffer (Err e) after) b w = Unit {0}

-- A tick ends a transfer exactly if one is open and it is the tenth since the master last sent.

abbrev pub Time : Act → Watch → Type 0
Time (Begin m o r) w = Unit {0}
Time (Serve r) w = Unit {0}
Time (Hear r) w = Unit {0}
Time (Tick r) w = r.ended ≡ (w.is_open && (w.ticks + 1 == 10))
Time (Settle k buffer r after) w = Unit {0}

-- what the law says of an event, by the account before it
pub record Kept (e : Witnessed) (a : Account) : Type 0 where
  pub sets : Sets e.set e.event.act a.book
  pub reads : Reads e.event.act a.book
  pub verdict : Verdict e.event.act a.book a.watch
  pub time : Time e.event.act a.watch
  -- from one begin to the next the master sends at most 1,300 frames
  pub few_frames : (accounted e a).watch.frames ≤ 1300

abbrev pub AllKept : List Witnessed → Account → Type 0
AllKept [] a = Unit {0}
AllKept (e ∷ es) a = Kept e a × AllKept es (accounted e a)

-- The law over events that began with a dictionary, by the dictionary and the count of commits now: what can be said of the
-- writes reported as Undecided, and of one whose ticket is still out, that the law holds of every event,
-- and the book ends with this dictionary, and its number is this count.
pub record Law (d : List Entry) (es : List Event) (now : List Entry) (commits : ℕ) : Type 0 where
  pub witnessed : List Witnessed
  pub events : map (λ (e : Witnessed). e.event) witnessed ≡ es
  pub kept : AllKept witnessed (first d)
  -- whether the value of a write was set whose ticket is still out
  pub ahead : Bool
  pub there : SetsThere ahead (account witnessed (first d)).book
  pub dictionary : now ≡ (set_if ahead (account witnessed (first d)).book).dictionary
  pub count : commits ≡ (set_if ahead (account witnessed (first d)).book).number

-- it holds of every run of a new bench, whatever its dictionary, its node's number and its block size
abbrev pub LawStands : Type 0
LawStands = (d : List Entry) → Lawful d → (n : NodeNumber) (b : BlockSize) (es : List Event) (s : State) → Run (fresh d n b) es s → Law d es s.dictionary s.node.commits

-- A run of a new bench up to now, and the law of it.
pub record Lawfully (d : List Entry) (n : NodeNumber) (b : BlockSize) (es : List Event) (s : State) : Type 0 where
  pub run : Run (fresh d n b) es s
  pub law : Law d es s.dictionary s.node.commits

-- What a call of a bench leaves, by what the line lost in it: after every past that led to the bench as it was before, from a new bench
-- with whatever dictionary, the past and this call are again a run up to now, and the law holds of it.
abbrev pub KeepsLaw : Act → List Frame → State → State → Type 0
KeepsLaw a fs s t = (x : Losses) × ((d : List Entry) → Lawful d → (n : NodeNumber) (b : BlockSize) (es : List Event) → Run (fresh d n b) es s → Lawfully d n b (es ++ event a fs x s ∷ []) t)

-- some events, and others behind them
pub record FirstPart (es all : List Event) : Type 0 where
  pub rest : List Event
  pub whole : es ++ rest ≡ all

-- The law of a whole run and of every first part of it.
pub record LawThroughout (d : List Entry) (n : NodeNumber) (b : BlockSize) (es : List Event) (s : State) : Type 0 where
  pub run : Run (fresh d n b) es s
  pub law : (fs : List Event) (t : State) → FirstPart fs es → Run (fresh d n b) fs t → Law d fs t.dictionary t.node.commits
