-- What the words of an order write: a byte as two hex digits, a multiplexor as IIII:SS.
-- Digits are 0 to 9 and, in either case, A to F.
use Rattle.std.specs.Prelude.{ℕ, ◌+◌, ◌-◌, ◌*◌, Bool, cond, ◌&&◌, List, length, Some, None, Option, ◌==◌, nat_le, slice_index}
use Rattle.wire.specs.declared.multiplexor.Multiplexor.{Multiplexor}

abbrev pub within : ℕ → ℕ → ℕ → Bool
within low high b = nat_le low b && nat_le b high

-- the value of a digit: 48 is '0', 65 is 'A', 97 is 'a'
abbrev pub hex_value : ℕ → Option ℕ
hex_value b = cond (within 48 57 b) (Some (b - 48)) (cond (within 65 70 b) (Some (b - 65 + 10)) (cond (within 97 102 b) (Some (b - 97 + 10)) None))

abbrev pub byte_of : Option ℕ → Option ℕ → Option ℕ
byte_of (Some high) (Some low) = Some (high * 16 + low)
byte_of (Some high) None = None
byte_of None (Some low) = None
byte_of None None = None

-- the byte that the two digits from a place on write
abbrev pub byte_at : List ℕ → ℕ → Option ℕ
byte_at w i = byte_of (hex_value (slice_index w i)) (hex_value (slice_index w (i + 1)))

-- the byte that a word writes
abbrev pub byte_in : List ℕ → Option ℕ
byte_in w = cond (length w == 2) (byte_at w 0) None

abbrev pub multiplexor_of : Option ℕ → Option ℕ → Option ℕ → Option Multiplexor
multiplexor_of (Some high) (Some low) (Some sub) = Some (record { index = high * 256 + low; subindex = sub })
multiplexor_of (Some high) (Some low) None = None
multiplexor_of (Some high) None s = None
multiplexor_of None l s = None

-- the multiplexor that a word writes: seven characters, the fifth a colon (58)
abbrev pub multiplexor_in : List ℕ → Option Multiplexor
multiplexor_in w = cond (length w == 7 && slice_index w 4 == 58) (multiplexor_of (byte_at w 0) (byte_at w 2) (byte_at w 5)) None
