use Rattle.std.proofs.Common.{◌≡◌, map, drop}
use Rattle.commands.specs.Arguments.{asked_after, help_asked}
use Rattle.commands.proofs.arguments.asks_for_help.Given as goal

-- what the arguments that are left ask for, after those before them, is what all ask for
abbrev pub invariant-loop-argument : goal.invariant-loop-argument
invariant-loop-argument l = asked_after l.asked (map (λ argument. argument.now) (drop l.argument-index l.arguments)) ≡ help_asked (map (λ argument. argument.now) l.arguments)
