-- The frames of a sub-block.
use Rattle.std.specs.Prelude.{ℕ, zero, suc, ◌+◌, List, [], ◌∷◌}
use Rattle.wire.specs.declared.frame.Frame.{Frame}
use Rattle.wire.specs.declared.node_number.NodeNumber.{NodeNumber}
use Rattle.sdo.specs.BlockRequests as block
use Rattle.sdo.specs.FrameData.{padded}
use Rattle.sdo.specs.Frames.{block_request_frame}
use Rattle.sdo.specs.Segments.{segment}
use Rattle.master.specs.Values.{is_last}

-- the frame of segment b + k of a value, which is number k of its sub-block
abbrev pub block_segment : NodeNumber → List ℕ → ℕ → ℕ → Frame
block_segment n v b k = block_request_frame n (block.Segment (is_last v (b + k)) k (padded 7 (segment (b + k) v)))

-- the frames of a sub-block from number k on
abbrev pub sub_block_from : NodeNumber → List ℕ → ℕ → ℕ → ℕ → List Frame
sub_block_from n v b k zero = []
sub_block_from n v b k (suc count) = block_segment n v b k ∷ sub_block_from n v b (k + 1) count

-- the frames of a sub-block of some segments of a value behind the first b
abbrev pub sub_block_of : NodeNumber → List ℕ → ℕ → ℕ → List Frame
sub_block_of n v b count = sub_block_from n v b 1 count
