-- What a master is: whom it asks, how many transfers it has begun, how far the latest one is, and how long it has waited or has to rest.
use Rattle.std.specs.Prelude.{ℕ, List, [], Some, None, Option, Result}
use Rattle.wire.specs.declared.multiplexor.Multiplexor.{Multiplexor}
use Rattle.wire.specs.declared.node_number.NodeNumber.{NodeNumber}
use Rattle.master.specs.declared.direction.Direction.{Direction}
use Rattle.master.specs.declared.direction.Direction.TheVariants.{Upload}
use Rattle.master.specs.declared.phase.Phase.{Phase}
use Rattle.master.specs.declared.phase.Phase.TheVariants.{Idle, Over}
use Rattle.master.specs.declared.phase.Aborted.{Aborted}

pub record State : Type 0 where
  pub node : NodeNumber
  -- transfers begun so far
  pub begun : ℕ
  -- how far the latest transfer is
  pub phase : Phase
  pub multiplexor : Multiplexor
  -- which way the latest transfer goes
  pub direction : Direction
  -- the value to be written, or the bytes read so far
  pub value : List ℕ
  -- the highest segment sent or asked for
  pub highest : ℕ
  -- ticks since the master last sent
  pub ticks : ℕ
  -- ticks of rest that are left
  pub rest : ℕ

-- a master that has begun nothing
abbrev pub fresh : NodeNumber → State
fresh n = record { node = n; begun = 0; phase = Idle; multiplexor = record { index = 0; subindex = 0 }; direction = Upload; value = []; highest = 0; ticks = 0; rest = 0 }

-- the master in another phase
abbrev pub in_phase : Phase → State → State
in_phase p s = record s { phase = p }

-- a transfer that is over is cleared, an open one stays
abbrev pub cleared_phase : Phase → Phase
cleared_phase (Over e) = Idle
cleared_phase p = p

abbrev pub clear : State → State
clear s = in_phase (cleared_phase s.phase) s

-- the number of the latest transfer, unless it is cleared
abbrev pub number_unless_idle : Phase → ℕ → Option ℕ
number_unless_idle Idle n = None
number_unless_idle p n = Some n

abbrev pub uncleared : State → Option ℕ
uncleared s = number_unless_idle s.phase s.begun

-- how a transfer that is over ended
abbrev pub ending_in : Phase → Option (Result (Unit {0}) Aborted)
ending_in (Over e) = Some e
ending_in p = None
