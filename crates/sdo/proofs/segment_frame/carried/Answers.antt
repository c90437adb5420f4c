use Rattle.std.proofs.Common.{rules, ◌≡◌, length, drop, ◌/◌, ◌%◌, ◌∙◌}
use Rattle.sdo.specs.Fields.{b}
use Rattle.sdo.proofs.Spelling.{from_the_first, front_of_a_front}
use Rattle.sdo.proofs.segment_frame.carried.Goals as goal

pub returns : goal.returns
returns c =
    let bytes = c.args.bytes in
    let eight : length bytes ≡ 8 = search rules in
    rw (from_the_first bytes eight) (c.front.ensures ∙ front_of_a_front 7 (b 0 bytes / 2 % 8) (drop 1 bytes))
