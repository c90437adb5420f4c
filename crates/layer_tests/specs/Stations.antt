-- What is told of a value that is asked for: its length, or the verdict on the read.
use Rattle.std.specs.Prelude.{ℕ, Some, None, Ok, Err, Option, Result}
use Rattle.wire.specs.declared.abort_code.AbortCode.{AbortCode}

abbrev pub length_or : Option AbortCode → ℕ → Result ℕ AbortCode
length_or None n = Ok n
length_or (Some c) n = Err c
