-- What a commit answers and what it leaves: without a verdict the value is set and nothing else changes, with one nothing changes.
use Rattle.std.specs.Prelude.{ℕ, List, Some, None, Ok, Err, Option, Result}
use Rattle.wire.specs.declared.multiplexor.Multiplexor.{Multiplexor}
use Rattle.wire.specs.declared.abort_code.AbortCode.{AbortCode}
use Rattle.dictionary.specs.Entries.{Entry, put}
use Rattle.dictionary.specs.Verdicts.{write_verdict}

abbrev pub decided : {C : Type 0} → Option C → Result (Unit {0}) C
decided None = Ok tt
decided (Some c) = Err c

abbrev pub set_unless : Option AbortCode → Multiplexor → List ℕ → List Entry → List Entry
set_unless None m v d = put m v d
set_unless (Some c) m v d = d

abbrev pub committed : List Entry → Multiplexor → List ℕ → List Entry
committed d m v = set_unless (write_verdict d m v) m v d
