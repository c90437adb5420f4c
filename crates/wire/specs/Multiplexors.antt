-- The order of multiplexors: by index, then by subindex.
use Rattle.std.specs.Prelude.{Bool, cond, ◌&&◌, ◌==◌, nat_lt}
use Rattle.wire.specs.declared.multiplexor.Multiplexor.{Multiplexor}

abbrev pub same : Multiplexor → Multiplexor → Bool
same a b = a.index == b.index && a.subindex == b.subindex

abbrev pub before : Multiplexor → Multiplexor → Bool
before a b = cond (a.index == b.index) (nat_lt a.subindex b.subindex) (nat_lt a.index b.index)
