-- What each of a bench's calls answers, what it makes of the bench, and which frames the master sends in it.
-- ls says of each frame that the master sends whether it is lost, and lost says it of the one that the node sends.
use Rattle.std.specs.Prelude.{ℕ, Bool, cond, List, [], ◌++◌, length, drop, Some, None, Ok, Err, Option, Result, ◌==◌, nat_lt}
use Rattle.std.specs.Option.{option_map}
use Rattle.wire.specs.declared.frame.Frame.{Frame}
use Rattle.wire.specs.declared.multiplexor.Multiplexor.{Multiplexor}
use Rattle.sdo.specs.Frames.{answer_frame}
use Rattle.line.specs.declared.end.End.TheVariants.{Master, Node}
use Rattle.line.specs.Meanings.{handed_out, taken}
use Rattle.master.specs.declared.heard.Heard.{Heard}
use Rattle.master.specs.declared.refusal.BeginRefusal.{BeginRefusal}
use Rattle.master.specs.States as master
use Rattle.master.specs.States.{ending_in, clear}
use Rattle.master.specs.Steps.{Step as Hearing, hear}
use Rattle.master.specs.Calls.{Order, Started, Parting, begin, tick as tick_master, give_up}
use Rattle.master.specs.Runs.{started_frames}
use Rattle.node.specs.declared.served.Served.{Served}
use Rattle.node.specs.Nodes.{dictionary_by, state_after, tick as tick_node}
use Rattle.node.specs.Steps.{Step, step}
use Rattle.report.specs.declared.refusal.SettleRefusal.{SettleRefusal}
use Rattle.report.specs.declared.refusal.SettleRefusal.TheVariants.{NotOut, ShortBuffer}
use Rattle.report.specs.declared.report.Outcome.{Outcome}
use Rattle.report.specs.declared.report.Outcome.TheVariants.{Written, Read, Unwritten, Undecided, Unread}
use Rattle.report.specs.declared.report.Report.{Report}
use Rattle.report.specs.Reports.{report_of}
use Rattle.bench.specs.declared.response.Ticked.{Ticked}
use Rattle.bench.specs.Model.Lines.{carried, replied}
use Rattle.bench.specs.Model.States.{State}

-- Begin: the line is quieted and the start is sent, or all stays and there is a refusal.

abbrev pub ticket_number : Result Started BeginRefusal → Result ℕ BeginRefusal
ticket_number (Ok x) = Ok x.number
ticket_number (Err e) = Err e

abbrev pub begin_answer : Multiplexor → Order → State → Result ℕ BeginRefusal
begin_answer m o s = ticket_number (begin s.master m o).answer

abbrev pub begun_as : Result Started BeginRefusal → master.State → List Bool → State → State
begun_as (Ok x) t ls s = record s { line = carried x.sending ls s.line; master = t }
begun_as (Err e) t ls s = s

unfoldable pub begin_step : Multiplexor → Order → List Bool → State → State
begin_step m o ls s = begun_as (begin s.master m o).answer (begin s.master m o).next ls s

abbrev pub begin_frames : Multiplexor → Order → State → List Frame
begin_frames m o s = started_frames (begin s.master m o).answer

-- Serve: the node takes one frame, and what it sends goes on the line.

abbrev pub node_step : State → Step
node_step s = step s.dictionary s.node (handed_out Node s.line)

abbrev pub serve_answer : State → Served
serve_answer s = (node_step s).served

unfoldable pub serve_step : Bool → State → State
serve_step lost s = record s {
  line = replied (option_map (answer_frame s.node.number) (node_step s).reply) lost (taken Node s.line);
  dictionary = dictionary_by (node_step s).set s.dictionary;
  node = state_after (handed_out Node s.line) (node_step s) s.node;
}

-- Hear: the master takes one frame, and does on the line what it then wants done.

abbrev pub master_step : State → Hearing
master_step s = hear s.master (handed_out Master s.line)

abbrev pub hear_answer : State → Heard
hear_answer s = (master_step s).heard

unfoldable pub hear_step : List Bool → State → State
hear_step ls s = record s { line = carried (master_step s).sending ls (taken Master s.line); master = (master_step s).next }

abbrev pub hear_frames : State → List Frame
hear_frames s = (master_step s).sending.frames

-- Tick: one for the master, then one for the node.

abbrev pub tick_answer : State → Ticked
tick_answer s = record { ended = (tick_master s.master).ended }

unfoldable pub tick_step : List Bool → Bool → State → State
tick_step ls lost s = record s {
  line = replied (option_map (answer_frame s.node.number) (tick_node s.node).reply) lost (carried (tick_master s.master).sending ls s.line);
  master = (tick_master s.master).next;
  node = (tick_node s.node).next;
}

abbrev pub tick_frames : State → List Frame
tick_frames s = (tick_master s.master).sending.frames

-- Settle: a transfer that is open is given up, and what became of it is told.

abbrev pub giving_up : State → Parting
giving_up s = give_up s.master

-- the report of the transfer whose ticket is out; none where none is out
abbrev pub report_out : State → Option Report
report_out s = option_map (λ e. report_of s.master.direction s.master.multiplexor e (length s.master.value)) (ending_in (giving_up s).next.phase)

-- a ticket is taken where it is the one that is out and the buffer has room for every value
abbrev pub settled : Bool → List ℕ → Option Report → Result Report SettleRefusal
settled own buffer None = Err NotOut
settled own buffer (Some r) = cond own (cond (nat_lt (length buffer) 1024) (Err ShortBuffer) (Ok r)) (Err NotOut)

abbrev pub settle_answer : ℕ → List ℕ → State → Result Report SettleRefusal
settle_answer k buffer s = settled (k == s.master.begun) buffer (report_out s)

-- the buffer after a read has the value at its front; any other is as it was
abbrev pub filled_by : Outcome → List ℕ → List ℕ → List ℕ
filled_by (Read n) v buffer = v ++ drop (length v) buffer
filled_by Written v buffer = buffer
filled_by (Unwritten f) v buffer = buffer
filled_by (Undecided f) v buffer = buffer
filled_by (Unread f) v buffer = buffer

abbrev pub filled : Result Report SettleRefusal → List ℕ → List ℕ → List ℕ
filled (Ok r) v buffer = filled_by r.outcome v buffer
filled (Err e) v buffer = buffer

abbrev pub settle_buffer : ℕ → List ℕ → State → List ℕ
settle_buffer k buffer s = filled (settle_answer k buffer s) s.master.value buffer

abbrev pub settled_by : Result Report SettleRefusal → List Bool → State → State
settled_by (Ok r) ls s = record s { line = carried (giving_up s).sending ls s.line; master = clear (giving_up s).next }
settled_by (Err e) ls s = s

unfoldable pub settle_step : ℕ → List ℕ → List Bool → State → State
settle_step k buffer ls s = settled_by (settle_answer k buffer s) ls s

abbrev pub settled_frames : Result Report SettleRefusal → List Frame → List Frame
settled_frames (Ok r) fs = fs
settled_frames (Err e) fs = []

abbrev pub settle_frames : ℕ → List ℕ → State → List Frame
settle_frames k buffer s = settled_frames (settle_answer k buffer s) (giving_up s).sending.frames
