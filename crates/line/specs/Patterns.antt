-- The pattern of 64 bits by which a drop layer loses frames: its lowest bit decides on a send, and each send turns it.
use Rattle.std.specs.Prelude.{◌≡◌, ℕ, zero, suc, ◌+◌, ◌*◌, ◌/◌, ◌%◌, ◌^◌, ◌<◌, Bool, ◌==◌}

-- whether the lowest bit is 1
abbrev pub lowest_bit : ℕ → Bool
lowest_bit pattern = pattern % 2 == 1

-- turned right by one bit: the lowest bit becomes the highest
abbrev pub turned : ℕ → ℕ
turned pattern = pattern / 2 + pattern % 2 * 2 ^ 63

-- turned once at each of some sends
abbrev pub turned_times : ℕ → ℕ → ℕ
turned_times zero pattern = pattern
turned_times (suc sends) pattern = turned_times sends (turned pattern)

-- bit i, of which bit 0 is the lowest
abbrev pub bit : ℕ → ℕ → Bool
bit i pattern = lowest_bit (pattern / 2 ^ i)

-- the bits decide in turn, from the lowest up and round: after 64 sends the first one decides again
abbrev pub BitsInTurn : Type 0
BitsInTurn = (sends pattern : ℕ) → pattern < 2 ^ 64 → lowest_bit (turned_times sends pattern) ≡ bit (sends % 64) pattern
