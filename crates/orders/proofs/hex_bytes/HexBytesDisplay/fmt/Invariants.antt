use Rattle.std.proofs.Common.{◌∷◌, get_or, take}
use Rattle.std.specs.Fmt.{HasWritten, IsPlainFormatter}
use Rattle.orders.specs.Written.{bytes_alone}
use Rattle.orders.proofs.hex_bytes.HexBytesDisplay.fmt.Given as goal

abbrev pub invariant-loop-byte : goal.invariant-loop-byte
invariant-loop-byte g l =
    IsPlainFormatter l.fn.f → HasWritten g.W.Write.write_str_gives l.fn.f (bytes_alone (get_or l.self.0.now 0 0 ∷ take l.byte-index l.rest)) l.f
