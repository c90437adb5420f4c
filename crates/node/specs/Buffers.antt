-- What a node's buffer holds: the bytes of the transfer that it is in.
use Rattle.std.specs.Prelude.{◌≡◌, ℕ, ◌+◌, ◌≤◌, Bool, List, length, take, nat_lt}
use Rattle.node.specs.declared.buffer.Buffer.TheInside.{Inside}

-- the bytes in use
abbrev pub held : Inside → List ℕ
held b = take b.len b.bytes

-- there is room for 1,029, and no more are in use
pub record Sound (b : Inside) : Type 0 where
  pub size : length b.bytes ≡ 1029
  pub bound : b.len ≤ 1029

-- no further segment of seven bytes has room behind some bytes: 147 are there
abbrev pub full : List ℕ → Bool
full v = nat_lt 1029 (length v + 7)
