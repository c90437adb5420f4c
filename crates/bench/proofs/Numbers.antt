-- A new bench is known by its numbers alone.
use Rattle.std.proofs.Common.{◌≡◌, ℕ, ◌≤◌, List, subst}
use Rattle.std.specs.Coded.{le_prop}
use Rattle.wire.specs.declared.node_number.NodeNumber.{NodeNumber}
use Rattle.wire.specs.Ranges.{nearest}
use Rattle.wire.proofs.Nearness.{nearest-low, nearest-high}
use Rattle.sdo.specs.Blocks.{BlockSize}
use Rattle.line.specs.Meanings.{Meaning, quieted}
use Rattle.dictionary.specs.Entries.{Entry}
use Rattle.master.specs.States as master
use Rattle.node.specs.States as node
use Rattle.node.specs.Nodes.{fresh as fresh_node}
use Rattle.bench.specs.Model.States.{fresh}
use Rattle.bench.specs.Numbers.{nearest_number, nearest_size}

-- what is made of a number within 1 to 127 is known by the number
known : {A : Type 0} (made : (m : ℕ) → 1 ≤ m → m ≤ 127 → A) (a b : ℕ) (low : 1 ≤ a) (high : a ≤ 127) (other_low : 1 ≤ b) (other_high : b ≤ 127) → a ≡ b → made a low high ≡ made b other_low other_high
known made a b low high other_low other_high same =
    subst (λ (m : ℕ). (l : 1 ≤ m) (h : m ≤ 127) → made a low high ≡ made m l h) same
    (λ l h i. made a (le_prop low l i) (le_prop high h i))
    other_low other_high

abbrev number_of : (m : ℕ) → 1 ≤ m → m ≤ 127 → NodeNumber
number_of m low high = record { number = m; low = low; high = high }

abbrev size_of : (m : ℕ) → 1 ≤ m → m ≤ 127 → BlockSize
size_of m low high = record { number = m; low = low; high = high }

pub made_fresh : (d : List Entry) {line : Meaning} {m : master.State} {t : node.State} {n : NodeNumber} {b : BlockSize} (i j : ℕ) → line ≡ quieted → m ≡ master.fresh n → t ≡ fresh_node n b → n.number ≡ nearest i → b.number ≡ nearest j → record { line = line; dictionary = d; master = m; node = t } ≡ fresh d (nearest_number i) (nearest_size j)
made_fresh d {n = n} {b = b} i j quiet idle served number size =
    let numbers : n ≡ nearest_number i = known number_of n.number (nearest i) n.low n.high (nearest-low i) (nearest-high i) number in
    let sizes : b ≡ nearest_size j = known size_of b.number (nearest j) b.low b.high (nearest-low j) (nearest-high j) size in
    cc
