-- What a node is: its number and block size, the transfer that it is in, how long it has taken no frame, and its count of commits.
-- The cases of a transfer are the states of an SDO server in CiA 301.
use Rattle.std.specs.Prelude.{ℕ, Bool, true, false, List}
use Rattle.wire.specs.declared.multiplexor.Multiplexor.{Multiplexor}
use Rattle.wire.specs.declared.node_number.NodeNumber.{NodeNumber}
use Rattle.sdo.specs.Blocks.{BlockSize}
use Rattle.sdo.specs.declared.toggle.Toggle.{Toggle}
use Rattle.node.specs.declared.block_start.BlockStart.{BlockStart}
use Rattle.node.specs.declared.download_start.DownloadStart.{DownloadStart}
use Rattle.node.specs.declared.reception.Reception.{Reception}

pub data Activity : Type 0 where
  Idle : Activity
  -- a write in segments: where to and its size if it was announced, the toggle of the next segment, and the bytes so far
  Download : DownloadStart → Toggle → List ℕ → Activity
  -- a read in segments: where from, the toggle of the next request, and the bytes that are still to be given
  Upload : Multiplexor → Toggle → List ℕ → Activity
  -- a block write while its segments come in: what its start said, the number of the next segment in its sub-block,
  -- whether there was one too many, and the bytes so far
  BlockDownload : Reception → List ℕ → Activity
  -- a block write whose last segment is there: what its start said, and its bytes with those that fill up the last segment
  BlockEnd : BlockStart → List ℕ → Activity

pub record State : Type 0 where
  pub number : NodeNumber
  pub block_size : BlockSize
  pub activity : Activity
  -- ticks since a frame was taken
  pub ticks : ℕ
  pub commits : ℕ

-- a block write before the first segment of a sub-block
abbrev pub next_sub_block : BlockStart → Reception
next_sub_block b = record { start = b; expected = 1; spoiled = false }

-- there is no transfer
abbrev pub is_idle : Activity → Bool
is_idle Idle = true
is_idle (Download w u v) = false
is_idle (Upload m u v) = false
is_idle (BlockDownload r v) = false
is_idle (BlockEnd b v) = false

-- the multiplexor that an abort names: the transfer's, zeros without one
abbrev pub named : Activity → Multiplexor
named Idle = record { index = 0; subindex = 0 }
named (Download w u v) = w.multiplexor
named (Upload m u v) = m
named (BlockDownload r v) = r.start.download.multiplexor
named (BlockEnd b v) = b.download.multiplexor
