-- What an open transfer is where the master ends it.
use Rattle.std.proofs.Common.{◌≡◌, Bool, true, List, inl, inr, arith}
use Rattle.dictionary.specs.Entries.{Entry}
use Rattle.master.specs.declared.phase.Awaiting.{Awaiting}
use Rattle.master.specs.Steps.{may_have_set}
use Rattle.master.specs.declared.direction.Direction.TheVariants as way
use Rattle.bench.specs.Model.States.{State}
use Rattle.bench.proofs.Law.Setting.{sets_last}
use Rattle.bench.proofs.Law.Exchange.{Waited, Flight, asks, asks_block, answered, silent}

pub flight_ahead : {d : List Entry} {s : State} {u : Awaiting} {ahead : Bool} → Flight d s u ahead → ahead ≡ true → (may_have_set u s.master.value ≡ true) × (s.master.direction ≡ way.Download)
flight_ahead (asks q ready to_node to_master wait) is = cc
flight_ahead (asks_block x n ns own dir block to_node to_master wait) is = cc
flight_ahead (answered ahead a replies to_node to_master wait) is = let set = sets_last replies is in (set.last, set.way)
flight_ahead (silent ahead to_node to_master lost may wait) is = may is

pub flight_waited : {d : List Entry} {s : State} {u : Awaiting} {ahead : Bool} → Flight d s u ahead → Waited s 9
flight_waited (asks q ready to_node to_master wait) = wait
flight_waited (asks_block x n ns own dir block to_node to_master wait) = wait
flight_waited (answered ahead a replies to_node to_master (inl idle)) = inl idle
flight_waited (answered ahead a replies to_node to_master (inr early)) = inr (omega arith)
flight_waited (silent ahead to_node to_master lost may wait) = wait
