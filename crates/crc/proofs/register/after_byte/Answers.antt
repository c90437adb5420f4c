use Rattle.std.proofs.Common.{◌≡◌, ◌*◌, ◌%◌, ◌^◌, sym, ◌∙◌, ap₂, arith}
use lib.Bits.{bit_xor}
use Rattle.crc.proofs.Bytes.{by_byte}
use Rattle.crc.proofs.register.after_byte.Goals as goal

pub returns : goal.returns
returns c =
    let r = c.args.register in
    let up : r * 2 ^ 8 % 2 ^ 16 ≡ r % 2 ^ 8 * 2 ^ 8 = omega arith in
    ap₂ bit_xor up c.of_byte.ensures ∙ sym (by_byte r c.args.byte (omega arith))
