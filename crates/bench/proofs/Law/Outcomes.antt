-- What serving and hearing make of an exchange: the statements that the two ends' steps are shown to meet.
use Rattle.std.proofs.Common.{◌≡◌, ℕ, ◌+◌, Bool, true, false, List, [], ◌∷◌, Some, None, Ok, Err, Option, Result}
use Rattle.wire.specs.declared.abort_code.AbortCode.{AbortCode}
use Rattle.wire.specs.declared.multiplexor.Multiplexor.{Multiplexor}
use Rattle.sdo.specs.Requests.{Request}
use Rattle.sdo.specs.Requests as request
use Rattle.sdo.specs.Answers.{Answer}
use Rattle.sdo.specs.Frames.{request_frame}
use Rattle.dictionary.specs.Entries.{Entry}
use Rattle.dictionary.specs.Laws.{There}
use Rattle.dictionary.specs.Questions.{value_at}
use Rattle.master.specs.declared.heard.Heard.TheVariants as heard
use Rattle.master.specs.declared.phase.Awaiting.{Awaiting}
use Rattle.master.specs.declared.phase.Awaiting.TheVariants as awaiting
use Rattle.master.specs.declared.phase.Aborted.{Aborted}
use Rattle.master.specs.declared.phase.Phase.TheVariants.{Open, Over}
use Rattle.master.specs.declared.phase.SubBlock.{SubBlock}
use Rattle.master.specs.SubBlocks.{sub_block_of}
use Rattle.master.specs.Sendings.{silence}
use Rattle.master.specs.Limits.{rest_ticks}
use Rattle.master.specs.States as master
use Rattle.master.specs.Steps as hearing
use Rattle.node.specs.States.{Activity, Idle}
use Rattle.node.specs.Steps.{Step}
use Rattle.master.specs.declared.direction.Direction.{Direction}
use Rattle.master.specs.declared.direction.Direction.TheVariants as way
use Rattle.bench.proofs.Law.Exchange.{numbers, verdict, setting_if, Ready, Replies, BlockAsks}

-- a node has taken the one request of an exchange
pub record Served (d : List Entry) (M : master.State) (nb : ℕ) (dir : Direction) (w : Awaiting) (lost : Bool) (p : Step) : Type 0 where
  pub ahead : Bool
  pub answer : Answer
  pub replied : p.reply ≡ Some answer
  pub set : p.set ≡ setting_if ahead M
  pub replies : Replies d M nb dir w p.next ahead lost answer

-- a node has taken one segment of a sub-block, behind which those with the numbers ns are still to come
pub data BlockServed (d : List Entry) (M : master.State) (nb : ℕ) (x : SubBlock) (lost : Bool) (ns : List ℕ) (p : Step) : Type 0 where
  says_nothing : p.reply ≡ None → p.set ≡ None → BlockAsks M nb x p.next lost ns → BlockServed d M nb x lost ns p
  ends_sub_block : (a : Answer) → ns ≡ [] → p.reply ≡ Some a → p.set ≡ None → Replies d M nb way.Download (awaiting.BlockDownload x) p.next false lost a → BlockServed d M nb x lost ns p

-- what stays of a master from a begin to the end: all that its order is
pub record SameOrder (dir : Direction) (M K : master.State) : Type 0 where
  pub node : K.node ≡ M.node
  pub begun : K.begun ≡ M.begun
  pub multiplexor : K.multiplexor ≡ M.multiplexor
  pub direction : K.direction ≡ M.direction
  pub value : dir ≡ way.Download → K.value ≡ M.value

-- a master goes on: it has just sent, and what is asked of a node in transfer t is ready for it
pub record Sends (dir : Direction) (M K : master.State) (w : Awaiting) : Type 0 where
  pub same : SameOrder dir M K
  pub phase : K.phase ≡ Open w
  pub ticks : K.ticks ≡ 0
  pub rest : K.rest ≡ M.rest
  -- a read asks for one segment more
  pub more : dir ≡ way.Upload → K.highest ≡ M.highest + 1

-- how an order has ended, by the dictionary and by whether a value was set
pub data Ended (d : List Entry) (K : master.State) : Direction → Bool → Result (Unit {0}) Aborted → Type 0 where
  written : verdict way.Download d K ≡ None → Ended d K way.Download true (Ok tt)
  read : verdict way.Upload d K ≡ None → There d K.multiplexor → K.value ≡ value_at d K.multiplexor → Ended d K way.Upload false (Ok tt)
  failed : (dir : Direction) (ahead : Bool) (f : Aborted) → (ahead ≡ true → (f.may_be_set ≡ true) × (dir ≡ way.Download)) → Ended d K dir ahead (Err f)

-- an ending is that of a verdict, or of none: a success, or a failure without doubt by its code
abbrev pub EndsBy : Result (Unit {0}) Aborted → Option AbortCode → Type 0
EndsBy (Ok x) v = v ≡ None
EndsBy (Err f) v = (v ≡ Some f.code) × (f.may_be_set ≡ false)

-- what a master that is done leaves: no frame, or at most its abort on a quieted line; and the node is idle, or the master rests for 30 ticks
pub data Leaves (M : master.State) (p : hearing.Step) (t : Activity) : Type 0 where
  done : t ≡ Idle → p.sending ≡ silence → p.next.rest ≡ M.rest → Leaves M p t
  abort_heard : t ≡ Idle → p.sending ≡ record { quiet = true; frames = [] } → Leaves M p t
  found : (m : Multiplexor) (c : AbortCode) → p.sending ≡ record { quiet = true; frames = request_frame M.node (request.Abort m c) ∷ [] } → p.next.rest ≡ rest_ticks → Leaves M p t

-- all segments of a sub-block
abbrev pub numbers_of : SubBlock → List ℕ
numbers_of x = numbers 0 x.count

-- a master that has heard a node's answer, while the node is in transfer t: it goes on with one request or with a sub-block,
-- or the transfer is over
pub data HeardAs (d : List Entry) (M : master.State) (nb : ℕ) (dir : Direction) (t : Activity) (ahead lost : Bool) (p : hearing.Step) : Type 0 where
  asks_on : (w : Awaiting) (q : Request) → p.heard ≡ heard.Sent → ahead ≡ false → Sends dir M p.next w → p.sending ≡ record { quiet = false; frames = request_frame p.next.node q ∷ [] } → Ready d p.next dir w t q → HeardAs d M nb dir t ahead lost p
  sends_block : (x : SubBlock) → p.heard ≡ heard.Sent → ahead ≡ false → dir ≡ way.Download → Sends dir M p.next (awaiting.BlockDownload x) → p.sending ≡ record { quiet = false; frames = sub_block_of p.next.node p.next.value x.acknowledged x.count } → BlockAsks p.next nb x t false (numbers_of x) → HeardAs d M nb dir t ahead lost p
  over : (e : Result (Unit {0}) Aborted) → p.heard ≡ heard.Over → SameOrder dir M p.next → p.next.phase ≡ Over e → Ended d p.next dir ahead e → (lost ≡ false → EndsBy e (verdict dir d M)) → Leaves M p t → HeardAs d M nb dir t ahead lost p
