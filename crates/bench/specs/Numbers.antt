-- The node number and the block size that are nearest to a number; that it lies within 1 to 127 is proved by nearest-low and nearest-high.
use Rattle.std.specs.Prelude.{ℕ}
use Rattle.wire.specs.declared.node_number.NodeNumber.{NodeNumber}
use Rattle.wire.specs.Ranges.{nearest}
use Rattle.wire.proofs.Nearness.{nearest-low, nearest-high}
use Rattle.sdo.specs.Blocks.{BlockSize}

abbrev pub nearest_number : ℕ → NodeNumber
nearest_number n = record { number = nearest n; low = nearest-low n; high = nearest-high n }

abbrev pub nearest_size : ℕ → BlockSize
nearest_size n = record { number = nearest n; low = nearest-low n; high = nearest-high n }
