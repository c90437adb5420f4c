-- The line that is made from an order, and what it means.
use Rattle.std.specs.Prelude.{ℕ}
use Rattle.line.specs.declared.named_line.NamedLine.{NamedLine}
use Rattle.line.specs.declared.named_line.NamedLine.TheVariants as named
use Rattle.line.specs.Drops.{fresh_layer}
use Rattle.line.specs.declared.recorder.Recorder.{Recorder}
use Rattle.line.specs.Meanings.{Meaning, quieted}
use Rattle.line.specs.Named.{named_shown}
use Rattle.commands.specs.declared.line_order.LineKind.{LineKind}
use Rattle.commands.specs.declared.line_order.LineKind.TheVariants as kind

-- a line of a kind that loses frames by a pattern, and has lost none
abbrev pub line_ordered : LineKind → ℕ → NamedLine
line_ordered kind.Memory pattern = named.Memory (fresh_layer quieted pattern)
line_ordered kind.Mailbox pattern = named.Mailbox (fresh_layer quieted pattern)

-- what a recorded line means
abbrev pub recorded_shown : {room : ℕ} → Recorder NamedLine room → Meaning
recorded_shown recorder = named_shown recorder.line
