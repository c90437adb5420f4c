-- A stage taken apart, with the means to put it together again for a bench whose master is the same.
use Rattle.std.proofs.Common.{◌≡◌, ◌≤◌, Bool, true, false, List, Some, None, Option, refl, ◌∙◌}
use Rattle.line.specs.Meanings.{Meaning}
use Rattle.dictionary.specs.Entries.{Entry}
use Rattle.master.specs.declared.phase.Awaiting.{Awaiting}
use Rattle.master.specs.declared.phase.Phase.TheVariants.{Open}
use Rattle.master.specs.Laws.{is_open}
use Rattle.node.specs.States as node
use Rattle.bench.specs.Model.States.{State}
use Rattle.bench.specs.Law.Books.{Note}
use Rattle.bench.specs.Law.Watches.{Watch}
use Rattle.bench.proofs.Law.Exchange.{Flight}
use Rattle.bench.specs.Law.Law.{Account}
use Rattle.bench.proofs.Law.Invariant.{Calm, Stage, rests, flies, over, note_of, Base}

-- a bench with another line, dictionary and node
abbrev pub with_node : Meaning → List Entry → node.State → State → State
with_node l D N s = record s { line = l; dictionary = D; node = N }

-- what there is beside the stage does not speak of the line, and of the node by its number and its count alone
pub with_node-base : (a : Account) (s : State) (ahead : Bool) (l : Meaning) (N : node.State) → N.number ≡ s.node.number → N.commits ≡ s.node.commits → Base a s ahead → Base a (with_node l s.dictionary N s) ahead
with_node-base a s ahead l N number commits b = record {
  lawful = b.lawful;
  indexed = b.indexed;
  same = number ∙ b.same;
  allowed = b.allowed;
  dictionary = b.dictionary;
  count = commits ∙ b.count;
  number = b.number;
  begun = b.begun;
  frames = b.frames;
}

-- an open transfer
pub record Aloft (d : List Entry) (s : State) (w : Watch) (n : Option Note) (ahead : Bool) (u : Awaiting) : Type 0 where
  pub phase : s.master.phase ≡ Open u
  pub noted : n ≡ Some (note_of s.master.direction s.master)
  pub few : s.master.ticks ≤ 9
  pub watched : w.is_open ≡ true
  pub ticks : w.ticks ≡ s.master.ticks
  pub before : w.before ≡ d
  pub not_over : w.lost_before_over ≡ None
  pub flight : Flight d s u ahead
  pub again : (l : Meaning) (D : List Entry) (N : node.State) (k : Bool) → Flight d (with_node l D N s) u k → Stage d (with_node l D N s) w n k

pub data At (d : List Entry) (s : State) (w : Watch) (n : Option Note) (ahead : Bool) : Type 0 where
  calmly : is_open s.master.phase ≡ false → Calm s → ((l : Meaning) (D : List Entry) (N : node.State) → Calm (with_node l D N s) → Stage d (with_node l D N s) w n ahead) → At d s w n ahead
  aloft : (u : Awaiting) → Aloft d s w n ahead u → At d s w n ahead

pub staged : (d : List Entry) (s : State) (w : Watch) (n : Option Note) (ahead : Bool) → Stage d s w n ahead → At d s w n ahead
staged d s w _ _ (rests own calm shut) = calmly (rw own refl) calm (λ l D N c. rests own c shut)
staged d s w _ _ (over r k own calm shut before end judged) = calmly (rw own refl) calm (λ l D N c. over r k own c shut before end judged)
staged d s w _ _ (flies u k own few watched same before none flight) =
    aloft u (record { phase = own; noted = refl; few = few; watched = watched; ticks = same; before = before; not_over = none; flight = flight; again = λ l D N j f. flies u j own few watched same before none f })
