-- What a bench holds, and the state that it is in by what its line shows and its dictionary means.
use Rattle.std.specs.Prelude.{List}
use Rattle.line.specs.Meanings.{Meaning}
use Rattle.dictionary.specs.Entries.{Entry}
use Rattle.node.specs.Nodes.{shown}
use Rattle.bench.specs.Model.States.{State}
use Rattle.bench.specs.declared.bench.Bench.{Bench}

module _ {L D : Type 0} where
  abbrev pub line_of : Bench L D → L
  line_of b = b.line

  abbrev pub dictionary_of : Bench L D → D
  dictionary_of b = b.dictionary

  abbrev pub state_of : (L → Meaning) → (D → List Entry) → Bench L D → State
  state_of shows meaning b = record { line = shows (line_of b); dictionary = meaning (dictionary_of b); master = b.master; node = shown b.node }
