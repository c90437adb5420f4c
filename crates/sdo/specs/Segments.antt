-- Segments of a value: which part each one carries, and the bytes of a segment in both directions.
-- A segment has up to seven bytes of the value, its toggle bit, and a mark if it is the last.
use Rattle.std.specs.Prelude.{◌≡◌, ℕ, zero, suc, ◌+◌, ◌-◌, ◌*◌, ◌/◌, ◌%◌, Bool, true, false, cond, not, List, [], ◌∷◌, ◌++◌, length, take, drop, Some, None, Option, ◌==◌}
use Rattle.sdo.specs.Fields.{b, bit0, bit4, set_bit, last_seven}
use Rattle.sdo.specs.FrameData.{padded}
use Rattle.sdo.specs.declared.toggle.Toggle.{Toggle}
use Rattle.sdo.specs.declared.toggle.Toggle.TheVariants.{Zero, One}

-- the part of a value that a segment carries, numbered from 1
abbrev pub segment : ℕ → List ℕ → List ℕ
segment zero v = []
segment (suc k) v = take 7 (drop (7 * k) v)

-- the first n segments, one behind the other
abbrev pub joined : ℕ → List ℕ → List ℕ
joined zero v = []
joined (suc k) v = joined k v ++ segment (suc k) v

-- they are the first 7n bytes of the value
abbrev pub SegmentsJoin : Type 0
SegmentsJoin = (n : ℕ) (v : List ℕ) → joined n v ≡ take (7 * n) v

-- an announced size differs from a number of bytes
abbrev pub differs : Option ℕ → ℕ → Bool
differs None n = false
differs (Some size) n = not (size == n)

-- the toggle bit, bit 4 of b0
abbrev pub toggle_bit : Toggle → ℕ
toggle_bit Zero = 0
toggle_bit One = 1

abbrev pub toggle_in : List ℕ → Toggle
toggle_in bytes = cond (bit4 (b 0 bytes)) One Zero

abbrev pub other : Toggle → Toggle
other Zero = One
other One = Zero

abbrev pub same_toggle : Toggle → Toggle → Bool
same_toggle Zero Zero = true
same_toggle Zero One = false
same_toggle One Zero = false
same_toggle One One = true

-- a segment: in b0 the toggle bit, in bits 3 to 1 the number of unused bytes, and bit 0 for the last; then the data
abbrev pub segment_bytes : Toggle → List ℕ → Bool → List ℕ
segment_bytes t v last = (16 * toggle_bit t + 2 * (7 - length v) + set_bit last) ∷ padded 7 v

abbrev pub segment_length : ℕ → ℕ
segment_length b0 = 7 - b0 / 2 % 8

abbrev pub data_in : List ℕ → List ℕ
data_in bytes = take (segment_length (b 0 bytes)) (last_seven bytes)

abbrev pub last_in : List ℕ → Bool
last_in bytes = bit0 (b 0 bytes)
