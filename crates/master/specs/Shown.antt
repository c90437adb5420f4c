-- How the code's calls follow the model's.
use Rattle.std.specs.Prelude.{◌≡◌, Bool, Ok, Err, Result}
use Rattle.sdo.specs.declared.request.Request as declared-request
use Rattle.sdo.specs.Requests.{Request, shown_request}
use Rattle.master.specs.declared.refusal.BeginRefusal.{BeginRefusal}
use Rattle.master.specs.declared.plan.Plan.{Plan}
use Rattle.master.specs.declared.plan.Step as declared
use Rattle.master.specs.declared.sending.Begun.{Begun}
use Rattle.master.specs.declared.sending.Hearing.{Hearing}
use Rattle.master.specs.declared.sending.Tick.{Tick}
use Rattle.master.specs.States.{State}
use Rattle.master.specs.Sendings.{shown_sending, planned}
use Rattle.master.specs.Steps.{Step}
use Rattle.master.specs.Calls.{Beginning, Started, Ticking, Parting}

-- what hear answers is as a step says, all that is to be sent too
pub record Tells (step : Step) (r : Hearing) : Type 0 where
  pub heard : r.heard ≡ step.heard
  pub sending : shown_sending r.sending ≡ step.sending

-- the same of a beginning
abbrev pub shown_begun : Result Begun BeginRefusal → Result Started BeginRefusal
shown_begun (Ok b) = Ok (record { number = b.number; sending = shown_sending b.sending })
shown_begun (Err e) = Err e

-- and of a tick
pub record TellsTick (step : Ticking) (r : Tick) : Type 0 where
  pub ended : r.ended ≡ step.ended
  pub sending : shown_sending r.sending ≡ step.sending

-- a master, and what it has resolved before it lends its value
pub record Follows (step : Step) (after : State) (r : declared.Step) : Type 0 where
  pub state : after ≡ step.next
  pub heard : r.heard ≡ step.heard
  pub sending : planned after r.plan ≡ step.sending

-- a start of the code, or why there is none
abbrev pub shown_start : Result declared-request.Request BeginRefusal → Result Request BeginRefusal
shown_start (Ok q) = Ok (shown_request q)
shown_start (Err e) = Err e

abbrev pub planned_start : State → Result Plan BeginRefusal → Result Started BeginRefusal
planned_start s (Ok p) = Ok (record { number = s.begun; sending = planned s p })
planned_start s (Err e) = Err e

pub record Begins (step : Beginning) (after : State) (r : Result Plan BeginRefusal) : Type 0 where
  pub state : after ≡ step.next
  pub answer : planned_start after r ≡ step.answer

pub record Ticks (step : Ticking) (after : State) (r : Bool × Plan) : Type 0 where
  pub state : after ≡ step.next
  pub ended : r.0 ≡ step.ended
  pub sending : planned after r.1 ≡ step.sending

pub record Parts (step : Parting) (after : State) (r : Plan) : Type 0 where
  pub state : after ≡ step.next
  pub sending : planned after r ≡ step.sending
