-- What serving a frame and a tick make of a node and its dictionary, and how a node of the code stands for a state.
use Rattle.std.specs.Prelude.{◌≡◌, ℕ, ◌+◌, ◌%◌, cond, List, drop, Some, None, Option, nat_le}
use Rattle.std.specs.Option.{option_map}
use Rattle.wire.specs.declared.frame.Frame.{Frame}
use Rattle.wire.specs.declared.node_number.NodeNumber.{NodeNumber}
use Rattle.wire.specs.declared.abort_code.AbortCode.TheVariants.{TimedOut}
use Rattle.sdo.specs.Blocks.{BlockSize}
use Rattle.sdo.specs.Answers.{Answer}
use Rattle.sdo.specs.Answers as answer
use Rattle.sdo.specs.Frames.{answer_frame}
use Rattle.dictionary.specs.Entries.{Entry, put}
use Rattle.node.specs.declared.node.Node.{Node}
use Rattle.node.specs.declared.reaction.Reaction.{Reaction}
use Rattle.node.specs.declared.activity.Activity as declared
use Rattle.node.specs.States.{State, Activity, Idle, Download, Upload, BlockDownload, BlockEnd, is_idle, named}
use Rattle.node.specs.Steps.{Step, Setting, step}

-- a node that has served nothing yet
abbrev pub fresh : NodeNumber → BlockSize → State
fresh n b = record { number = n; block_size = b; activity = Idle; ticks = 0; commits = 0 }

-- what the count of commits wraps at: it has 16 bits
abbrev pub count_modulus : ℕ
count_modulus = 65536

-- only a value that is set changes the dictionary, and just then the count grows by one, wrapping
abbrev pub dictionary_by : Option Setting → List Entry → List Entry
dictionary_by None d = d
dictionary_by (Some v) d = put v.multiplexor v.value d

abbrev pub commits_by : Option Setting → ℕ → ℕ
commits_by None n = n
commits_by (Some v) n = (n + 1) % count_modulus

-- the node after a frame: any frame that is taken restarts its time
abbrev pub stepped : Step → State → State
stepped p s = record s { activity = p.next; ticks = 0; commits = commits_by p.set s.commits }

abbrev pub state_after : Option Frame → Step → State → State
state_after None p s = s
state_after (Some f) p s = stepped p s

-- what serve answers
abbrev pub reaction : NodeNumber → Step → Reaction
reaction n p = record { served = p.served; reply = option_map (answer_frame n) p.reply }

-- what comes of a tick: the node afterwards, and its own message
pub record Tick : Type 0 where
  pub next : State
  pub reply : Option Answer

abbrev pub timed_out : State → Tick
timed_out s = record { next = record s { activity = Idle; ticks = 0 }; reply = Some (answer.Abort (named s.activity) TimedOut) }

abbrev pub waited : State → Tick
waited s = record { next = record s { ticks = s.ticks + 1 }; reply = None }

-- the 25th tick since a frame was taken ends a transfer
unfoldable pub tick : State → Tick
tick s =
    cond (is_idle s.activity) (record { next = s; reply = None })
    (cond (nat_le 25 (s.ticks + 1)) (timed_out s)
    (waited s))

-- the transfer of a node of the code, whose bytes are in its buffer
abbrev pub shown_activity : declared.Activity → List ℕ → Activity
shown_activity declared.TheVariants.Idle v = Idle
shown_activity (declared.TheVariants.Download w u) v = Download w u v
shown_activity (declared.TheVariants.Upload r) v = Upload r.multiplexor r.toggle (drop r.given v)
shown_activity (declared.TheVariants.BlockDownload r) v = BlockDownload r v
shown_activity (declared.TheVariants.BlockEnd b) v = BlockEnd b v

-- the state that a node of the code stands for
abbrev pub shown : Node → State
shown n = record {
  number = n.number;
  block_size = n.block_size;
  activity = shown_activity n.activity n.buffer;
  ticks = n.ticks;
  commits = n.commits;
}

-- what a step answers, and what it makes of the node
pub record Goes (p : Step) (s t : Node) (r : Reaction) : Type 0 where
  pub answer : r ≡ reaction s.number p
  pub node : shown t ≡ stepped p (shown s)

-- a step that sets nothing: the answer and the node afterwards
pub record Turns (p : Step) (s t : Node) (r : Reaction) : Type 0 where
  pub answer : r ≡ reaction s.number p
  pub node : shown t ≡ stepped p (shown s)
  pub unset : p.set ≡ None

-- a tick: the frame sent and the node afterwards
pub record Ticks (s t : Node) (r : Option Frame) : Type 0 where
  pub answer : r ≡ option_map (answer_frame s.number) (tick (shown s)).reply
  pub node : shown t ≡ (tick (shown s)).next

-- over dictionaries of any kind, by their entries
module _ {D : Type 0} (meaning : D → List Entry) where
  -- a step that looks at the entries: the answer, the node and the dictionary afterwards
  pub record Does (p : List Entry → Step) (s t : Node) (d e : D) (r : Reaction) : Type 0 where
    pub answer : r ≡ reaction s.number (p (meaning d))
    pub node : shown t ≡ stepped (p (meaning d)) (shown s)
    pub dictionary : meaning e ≡ dictionary_by (p (meaning d)).set (meaning d)

  -- serving a frame, or none: the answer, the node and the dictionary afterwards
  pub record Serves (taken : Option Frame) (s t : Node) (d e : D) (r : Reaction) : Type 0 where
    pub answer : r ≡ reaction s.number (step (meaning d) (shown s) taken)
    pub node : shown t ≡ state_after taken (step (meaning d) (shown s) taken) (shown s)
    pub dictionary : meaning e ≡ dictionary_by (step (meaning d) (shown s) taken).set (meaning d)
