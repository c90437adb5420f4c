use Rattle.std.proofs.Common.{refl}
use Rattle.crc.specs.Registers.{after_bit, after_byte}
use Rattle.crc.proofs.Endings.{checked_is_zero}
use Rattle.crc.proofs.laws.known_values.Goals as goal

pub returns : goal.returns
unfolding after_bit after_byte
returns c = record { none = refl; digits = refl; checked = checked_is_zero }
