-- What fits the fields of a frame, so that it can be read back.
use Rattle.std.specs.Prelude.{ℕ, ◌^◌, ◌<◌, ◌≤◌, length, Some, None, Option}
use Rattle.wire.specs.declared.multiplexor.Multiplexor.{Multiplexor}
use Rattle.wire.specs.declared.abort_code.AbortCode.{AbortCode}
use Rattle.wire.specs.AbortCodes.{number}
use Rattle.sdo.specs.Transfers.{Transfer, Expedited, Segmented}

-- an index of 16 bits
abbrev pub Indexed : Multiplexor → Type 0
Indexed m = m.index < 2 ^ 16

-- a size of 32 bits, or none
abbrev pub Sized : Option ℕ → Type 0
Sized (Some size) = size < 2 ^ 32
Sized None = Unit {0}

-- one to four bytes at once, or a size
abbrev pub Carried : Transfer → Type 0
Carried (Expedited v) = (1 ≤ length v) × (length v ≤ 4)
Carried (Segmented size) = Sized size

-- a code of 32 bits
abbrev pub Proper : AbortCode → Type 0
Proper c = number c < 2 ^ 32
