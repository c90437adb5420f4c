-- What happens in the parts of a round, as the acts of a bench that were done one after the other.
use Rattle.std.specs.Prelude.{◌≡◌, ℕ, ◌+◌, ◌<◌, Bool, true, false, ◌||◌, List, [], ◌∷◌, ◌++◌, map, Some, None, Ok, Option, ◌≢◌}
use Rattle.wire.specs.declared.node_number.NodeNumber.{NodeNumber}
use Rattle.sdo.specs.Blocks.{BlockSize}
use Rattle.dictionary.specs.Entries.{Entry, Lawful}
use Rattle.master.specs.Limits.{rest_ticks}
use Rattle.master.specs.declared.heard.Heard.{Heard}
use Rattle.master.specs.declared.heard.Heard.TheVariants as heard
use Rattle.node.specs.declared.served.Served.{Served}
use Rattle.node.specs.declared.served.Served.TheVariants as served
use Rattle.report.specs.declared.report.Outcome.{Outcome}
use Rattle.report.specs.declared.report.Outcome.TheVariants.{Written, Read, Unwritten, Undecided, Unread}
use Rattle.report.specs.declared.report.Report.{Report}
use Rattle.bench.specs.declared.response.Ticked.{Ticked}
use Rattle.bench.specs.Model.States.{State, fresh}
use Rattle.bench.specs.Law.Runs.{Act, Serve, Hear, Tick, Settle, Event, Run}
use Rattle.bench.specs.Law.Law.{Lawfully}

-- so many serves, each of which found a frame
pub data Serves : ℕ → List Act → Type 0 where
  none : Serves 0 []
  more : (n : ℕ) (xs : List Act) (r : Served) → Serves n xs → r ≢ served.NothingWaited → Serves (n + 1) (xs ++ Serve r ∷ [])

-- serves until one finds nothing, with that one; 300 at most
pub data ServesAll : List Act → Type 0 where
  ended : (n : ℕ) (xs : List Act) → n < 300 → Serves n xs → ServesAll (xs ++ Serve served.NothingWaited ∷ [])
  full : (xs : List Act) → Serves 300 xs → ServesAll xs

-- so many hears, each of which found a frame; and whether one of them ended the transfer
pub data Hears : ℕ → Bool → List Act → Type 0 where
  none : Hears 0 false []
  over : (n : ℕ) (was : Bool) (xs : List Act) → Hears n was xs → Hears (n + 1) true (xs ++ Hear heard.Over ∷ [])
  more : (n : ℕ) (was : Bool) (xs : List Act) (r : Heard) → Hears n was xs → r ≢ heard.NothingWaited → r ≢ heard.Over → Hears (n + 1) was (xs ++ Hear r ∷ [])

-- hears until one finds nothing, with that one; 300 at most
pub data HearsAll : Bool → List Act → Type 0 where
  ended : (n : ℕ) (over : Bool) (xs : List Act) → n < 300 → Hears n over xs → HearsAll over (xs ++ Hear heard.NothingWaited ∷ [])
  full : (over : Bool) (xs : List Act) → Hears 300 over xs → HearsAll over xs

-- a round, and whether a hear or the tick of it ended the transfer
pub data Round : Bool → List Act → Type 0 where
  round : (over : Bool) (xs ys : List Act) (r : Ticked) → ServesAll xs → HearsAll over ys → Round (over || r.ended) (xs ++ ys ++ Tick r ∷ [])

-- so many rounds, none of which ended the transfer
pub data Goes : ℕ → List Act → Type 0 where
  none : Goes 0 []
  more : (n : ℕ) (xs ys : List Act) → Goes n xs → Round false ys → Goes (n + 1) (xs ++ ys)

-- rounds until one ends the transfer, with that one; 13,000 at most
pub data Rounds : List Act → Type 0 where
  ended : (n : ℕ) (xs ys : List Act) → n < 13000 → Goes n xs → Round true ys → Rounds (xs ++ ys)
  full : (xs : List Act) → Goes 13000 xs → Rounds xs

-- so many ticks
pub data Ticks : ℕ → List Act → Type 0 where
  none : Ticks 0 []
  more : (n : ℕ) (xs : List Act) (r : Ticked) → Ticks n xs → Ticks (n + 1) (xs ++ Tick r ∷ [])

-- for how many ticks a master rests after a transfer
abbrev pub resting : Outcome → ℕ
resting Written = 0
resting (Read n) = 0
resting (Unwritten f) = rest_ticks
resting (Undecided f) = rest_ticks
resting (Unread f) = rest_ticks

-- rounds, the settle of a ticket with a buffer, and the rest
pub data Carries (k : ℕ) (r : Report) (buffer after : List ℕ) : List Act → Type 0 where
  carries : (xs ys : List Act) → Rounds xs → Ticks (resting r.outcome) ys → Carries k r buffer after (xs ++ Settle k buffer (Ok r) after ∷ ys)

-- the transfer is carried out whose ticket is held; where none is, nothing happens
abbrev pub CarriesOut : Option ℕ → Option Report → List ℕ → List ℕ → List Act → Type 0
CarriesOut (Some k) (Some r) buffer after xs = Carries k r buffer after xs
CarriesOut (Some k) None buffer after xs = ⊥
CarriesOut None (Some r) buffer after xs = ⊥
CarriesOut None None buffer after xs = (xs ≡ []) × (after ≡ buffer)

-- What some events leave: after every past that led to the bench as it was before them, from a new bench with whatever dictionary,
-- the past and they are again a run up to now, and the law holds of it.
abbrev pub KeepsLawOver : List Event → State → State → Type 0
KeepsLawOver es s t = (d : List Entry) → Lawful d → (n : NodeNumber) (b : BlockSize) (past : List Event) → Run (fresh d n b) past s → Lawfully d n b (past ++ es) t

-- A bench went from one state to another by events whose acts are as told, and the law holds with them.
pub record Went (told : List Act → Type 0) (s t : State) : Type 0 where
  pub events : List Event
  pub acts : told (map (λ (e : Event). e.act) events)
  pub run : Run s events t
  pub law : KeepsLawOver events s t
