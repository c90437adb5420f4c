-- What a bench is: its line, its dictionary and its two ends.
use Rattle.std.specs.Prelude.{List}
use Rattle.wire.specs.declared.node_number.NodeNumber.{NodeNumber}
use Rattle.sdo.specs.Blocks.{BlockSize}
use Rattle.line.specs.Meanings.{Meaning, quieted}
use Rattle.dictionary.specs.Entries.{Entry}
use Rattle.master.specs.States as master
use Rattle.node.specs.States as node
use Rattle.node.specs.Nodes.{fresh as fresh_node}

pub record State : Type 0 where
  pub line : Meaning
  pub dictionary : List Entry
  pub master : master.State
  pub node : node.State

-- a new bench: its line is quieted, both ends are idle
abbrev pub fresh : List Entry → NodeNumber → BlockSize → State
fresh d n b = record { line = quieted; dictionary = d; master = master.fresh n; node = fresh_node n b }
