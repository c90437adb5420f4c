-- The master's other calls: beginning a transfer, a tick, and giving a transfer up.
use Rattle.std.specs.Prelude.{ℕ, ◌+◌, ◌-◌, Bool, true, false, cond, List, [], ◌∷◌, length, Some, Ok, Err, Result, ◌==◌, nat_le, nat_lt}
use Rattle.wire.specs.declared.multiplexor.Multiplexor.{Multiplexor}
use Rattle.wire.specs.declared.abort_code.AbortCode.TheVariants.{TimedOut, GeneralError}
use Rattle.sdo.specs.declared.crc_offer.CrcOffer.TheVariants.{Offered}
use Rattle.sdo.specs.Transfers.{Expedited, Segmented}
use Rattle.sdo.specs.Requests.{Request}
use Rattle.sdo.specs.Requests as request
use Rattle.sdo.specs.Frames.{request_frame}
use Rattle.master.specs.declared.direction.Direction.{Direction}
use Rattle.master.specs.declared.direction.Direction.TheVariants.{Upload, Download}
use Rattle.master.specs.declared.method.Method.{Method}
use Rattle.master.specs.declared.method.Method.TheVariants as method
use Rattle.master.specs.declared.refusal.BeginRefusal.{BeginRefusal}
use Rattle.master.specs.declared.refusal.BeginRefusal.TheVariants.{NotCleared, Resting, AllBegun, ValueLength, NotExpedited}
use Rattle.master.specs.declared.phase.Phase.{Phase}
use Rattle.master.specs.declared.phase.Phase.TheVariants as phase
use Rattle.master.specs.declared.phase.Awaiting.{Awaiting}
use Rattle.master.specs.declared.phase.Awaiting.TheVariants as awaiting
use Rattle.master.specs.Limits.{most_transfers}
use Rattle.master.specs.Methods.{takes}
use Rattle.master.specs.Values.{is_length}
use Rattle.master.specs.States.{State}
use Rattle.master.specs.Sendings.{Sending, silence}
use Rattle.master.specs.Steps.{abandoned, parting}

-- what a transfer is begun for: a read, or a write of a value by a method
pub data Order : Type 0 where
  Read : Order
  Write : Method → List ℕ → Order

abbrev pub ordered : Order → List ℕ
ordered Read = []
ordered (Write how v) = v

abbrev pub direction_of : Order → Direction
direction_of Read = Upload
direction_of (Write how v) = Download

-- the answer to the start of a transfer
abbrev pub write_awaited : Method → Awaiting
write_awaited method.Expedited = awaiting.ExpeditedDownload
write_awaited method.Segmented = awaiting.InitiateDownload
write_awaited method.Block = awaiting.InitiateBlockDownload

abbrev pub first_awaited : Order → Awaiting
first_awaited Read = awaiting.InitiateUpload
first_awaited (Write how v) = write_awaited how

-- what speaks against any transfer: the first of these
abbrev pub not_cleared : Phase → Bool
not_cleared phase.Idle = false
not_cleared p = true

abbrev pub free : State → Result (Unit {0}) BeginRefusal
free s =
    cond (not_cleared s.phase) (Err NotCleared)
    (cond (nat_lt 0 s.rest) (Err Resting)
    (cond (nat_le most_transfers s.begun) (Err AllBegun)
    (Ok tt)))

-- the start of a write, or what speaks against the value: first its length, then that its method has no room for it
abbrev pub allowed_start : Method → List ℕ → Request → Result Request BeginRefusal
allowed_start how v q = cond (is_length (length v)) (cond (takes how (length v)) (Ok q) (Err NotExpedited)) (Err ValueLength)

-- the start of a transfer; a write announces its size, and one by block offers a CRC
abbrev pub write_start : Multiplexor → Method → List ℕ → Request
write_start m method.Expedited v = request.InitiateDownload m (Expedited v)
write_start m method.Segmented v = request.InitiateDownload m (Segmented (Some (length v)))
write_start m method.Block v = request.InitiateBlockDownload m Offered (Some (length v))

abbrev pub start : Multiplexor → Order → Result Request BeginRefusal
start m Read = Ok (request.InitiateUpload m)
start m (Write how v) = allowed_start how v (write_start m how v)

-- a transfer that was begun: its number, and its start on a line that was quieted
pub record Started : Type 0 where
  pub number : ℕ
  pub sending : Sending

-- the master afterwards, and what begin answers
pub record Beginning : Type 0 where
  pub next : State
  pub answer : Result Started BeginRefusal

-- a transfer opens, by the answer to its start
abbrev pub opening : State → Multiplexor → Awaiting → State
opening s m w = record s { begun = s.begun + 1; phase = phase.Open w; multiplexor = m; highest = 0; ticks = 0 }

abbrev pub opened : State → Multiplexor → Order → State
opened s m o = opening (record s { direction = direction_of o; value = ordered o }) m (first_awaited o)

abbrev pub starting : State → Request → Started
starting s q = record { number = s.begun + 1; sending = record { quiet = true; frames = request_frame s.node q ∷ [] } }

abbrev pub begin_if : Result (Unit {0}) BeginRefusal → Result Request BeginRefusal → State → Multiplexor → Order → Beginning
begin_if (Err e) q s m o = record { next = s; answer = Err e }
begin_if (Ok x) (Err e) s m o = record { next = s; answer = Err e }
begin_if (Ok x) (Ok q) s m o = record { next = opened s m o; answer = Ok (starting s q) }

-- a refusal changes nothing
unfoldable pub begin : State → Multiplexor → Order → Beginning
begin s m o = begin_if (free s) (start m o) s m o

-- what comes of a tick: the master afterwards, whether the transfer has ended, and what is done on the line
pub record Ticking : Type 0 where
  pub next : State
  pub ended : Bool
  pub sending : Sending

-- the master with other numbers of ticks and of ticks of rest
abbrev pub counted : ℕ → ℕ → State → State
counted n r s = record s { ticks = n; rest = r }

-- the tenth tick after the master last sent ends the transfer
abbrev pub waited : State → Awaiting → Ticking
waited s w =
    cond (nat_lt s.ticks 9)
    (record { next = counted (s.ticks + 1) s.rest s; ended = false; sending = silence })
    (record { next = abandoned w TimedOut s; ended = true; sending = parting TimedOut s })

-- in the last tick of rest the line is quieted again
abbrev pub rested : State → Ticking
rested s = record { next = counted s.ticks (s.rest - 1) s; ended = false; sending = record { quiet = (s.rest == 1); frames = [] } }

abbrev pub tick_in : State → Phase → Ticking
tick_in s (phase.Open w) = waited s w
tick_in s p = rested s

unfoldable pub tick : State → Ticking
tick s = tick_in s s.phase

-- what comes of giving up: an open transfer is ended, else nothing is done
pub record Parting : Type 0 where
  pub next : State
  pub sending : Sending

abbrev pub give_up_in : State → Phase → Parting
give_up_in s (phase.Open w) = record { next = abandoned w GeneralError s; sending = parting GeneralError s }
give_up_in s p = record { next = s; sending = silence }

abbrev pub give_up : State → Parting
give_up s = give_up_in s s.phase
