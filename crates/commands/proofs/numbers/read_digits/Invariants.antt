use Rattle.std.proofs.Common.{◌≡◌, drop}
use Rattle.commands.specs.Numbers.{number_after, number_in}
use Rattle.commands.proofs.numbers.read_digits.Given as goal

-- the number so far, and the digits that are left, are the number of the word
abbrev pub invariant-loop-digit : goal.invariant-loop-digit
invariant-loop-digit l = number_after l.base l.number (drop l.digit-index l.word) ≡ number_in l.base l.word
