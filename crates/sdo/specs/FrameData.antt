-- Bytes of a value in a field of a frame that has room for more of them.
use Rattle.std.specs.Prelude.{ℕ, ◌-◌, Bool, cond, ◌&&◌, List, ◌++◌, length, take, replicate, Some, None, Option, nat_le}
use Rattle.sdo.specs.declared.frame_data.FrameData.{FrameData}

-- n bytes that begin with a value; the others are zero
abbrev pub padded : ℕ → List ℕ → List ℕ
padded n v = v ++ replicate (n - length v) 0

-- the value that data stands for
abbrev pub value_in : {least most : ℕ} → FrameData least most → List ℕ
value_in d = take d.len d.bytes

-- a value has a number of bytes within two bounds
abbrev pub fits : ℕ → ℕ → List ℕ → Bool
fits least most v = nat_le least (length v) && nat_le (length v) most

-- a value as data of at least and at most some bytes
abbrev pub data_of : ℕ → ℕ → List ℕ → Option (List ℕ)
data_of least most v = cond (fits least most v) (Some v) None

-- the start of a transfer carries one to four bytes
abbrev pub fits_expedited : List ℕ → Bool
fits_expedited v = fits 1 4 v

abbrev pub expedited_of : List ℕ → Option (List ℕ)
expedited_of v = data_of 1 4 v
