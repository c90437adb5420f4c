-- Where a master stops.
use Rattle.std.specs.Prelude.{ℕ}

-- how many transfers it begins
abbrev pub most_transfers : ℕ
most_transfers = 65535

-- the number at which the segments of a read are no longer counted: it has 16 bits
abbrev pub segment_cap : ℕ
segment_cap = 65535

-- the ticks for which it rests after a transfer that has failed
abbrev pub rest_ticks : ℕ
rest_ticks = 30
