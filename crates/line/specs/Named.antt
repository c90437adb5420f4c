-- What a line means that is chosen at run time.
use Rattle.std.specs.Prelude.{ℕ}
use Rattle.line.specs.declared.named_line.NamedLine.{NamedLine}
use Rattle.line.specs.declared.named_line.NamedLine.TheVariants.{Memory, Mailbox}
use Rattle.line.specs.Drops.{layer_shown}
use Rattle.line.specs.Meanings.{Meaning}

-- what its layer means
abbrev pub named_shown : NamedLine → Meaning
named_shown (Memory layer) = layer_shown (λ m. m) layer
named_shown (Mailbox layer) = layer_shown (λ m. m) layer

-- the pattern that is its layer's
abbrev pub dropped_by : NamedLine → ℕ
dropped_by (Memory layer) = layer.pattern
dropped_by (Mailbox layer) = layer.pattern
