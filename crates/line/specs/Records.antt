-- What a recorder keeps of the frames that were sent.
use Rattle.std.specs.Prelude.{◌≡◌, ℕ, ◌+◌, ◌-◌, ◌*◌, ◌^◌, min, List, [], ◌∷◌, ◌++◌, length, drop, slice_range}
use Rattle.std.specs.List.{flat_map}
use Rattle.std.proofs.Common.{lit≤}
use Rattle.wire.specs.Frames.{request_identifier}
use Rattle.line.specs.declared.end.End.TheVariants.{Node}
use Rattle.line.specs.declared.sent.Sent.{Sent}

-- the last of some items, so many of them, or all where there are no more
abbrev pub newest : {A : Type 0} → ℕ → List A → List A
newest count xs = drop (length xs - count) xs

-- what two rows of places keep, read one behind the other: the newest that lie from a start on and before the free places at the end
abbrev pub kept_in : {A : Type 0} → ℕ → List (List A) → ℕ → ℕ → List A
kept_in room rows start free = newest room (slice_range (flat_map (λ row. row) rows) start (2 * room - free))

-- one more, as far as 64 bits count
abbrev pub counted : ℕ → ℕ
counted n = min (n + 1) (2 ^ 64 - 1)

-- what is kept frame by frame are the newest of all frames
abbrev pub NewestOfAll : Type 0
NewestOfAll = (room : ℕ) (all : List Sent) (next : Sent) → newest room (newest room all ++ next ∷ []) ≡ newest room (all ++ next ∷ [])

-- a place that holds no frame has a frame of zeros to node 1
abbrev pub vacant : Sent
vacant = record { to = Node; frame = record { identifier = request_identifier (record { number = 1; low = lit≤ tt; high = lit≤ tt }); bytes = 0 ∷ 0 ∷ 0 ∷ 0 ∷ 0 ∷ 0 ∷ 0 ∷ 0 ∷ [] } }
