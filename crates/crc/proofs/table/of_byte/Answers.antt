use Rattle.std.proofs.Common.{arith}
use Rattle.std.proofs.lemmas.List.FromFn.{get_or-map-range_with_len}
use Rattle.crc.specs.Registers.{after_bit, after_byte}
use Rattle.crc.proofs.table.of_byte.Goals as goal

-- the table is the list of the check values of 0 to 255, which antt computes
pub returns : goal.returns
unfolding after_bit after_byte
returns c = get_or-map-range_with_len (after_byte 0) 0 256 c.args.byte c.args.byte 0 (omega arith) (omega arith)
