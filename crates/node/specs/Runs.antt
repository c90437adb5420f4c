-- Whole runs of a node: what was served and which ticks passed, one after the other.
-- Beside the node there is one who only sees what is sent to it and what it answers, and writes down what a start said and the data of the
-- segments that were taken.
use Rattle.std.specs.Prelude.{◌≡◌, ℕ, ◌+◌, ◌-◌, ◌≤◌, Bool, true, false, cond, List, [], ◌∷◌, ◌++◌, length, take, Some, None, Option, ◌==◌}
use Rattle.wire.specs.declared.frame.Frame.{Frame}
use Rattle.wire.specs.declared.multiplexor.Multiplexor.{Multiplexor}
use Rattle.wire.specs.Frames.{request_identifier}
use Rattle.crc.specs.Registers.{crc}
use Rattle.sdo.specs.declared.crc_offer.CrcOffer.{CrcOffer}
use Rattle.sdo.specs.declared.crc_offer.CrcOffer.TheVariants.{Offered, NotOffered}
use Rattle.sdo.specs.declared.toggle.Toggle.{Toggle}
use Rattle.sdo.specs.declared.toggle.Toggle.TheVariants.{Zero}
use Rattle.sdo.specs.Segments.{other}
use Rattle.sdo.specs.Answers.{Answer}
use Rattle.sdo.specs.Answers as answer
use Rattle.sdo.specs.BlockRequests.{BlockRequest, block_request_in}
use Rattle.sdo.specs.BlockRequests as block
use Rattle.sdo.specs.Requests.{Request, request_in, completes}
use Rattle.sdo.specs.Requests as request
use Rattle.sdo.specs.Transfers as coming
use Rattle.dictionary.specs.Entries.{Entry}
use Rattle.node.specs.declared.block_start.BlockStart.{BlockStart}
use Rattle.node.specs.declared.download_start.DownloadStart.{DownloadStart}
use Rattle.node.specs.declared.served.Served.{Served}
use Rattle.node.specs.declared.served.Served.TheVariants.{NothingWaited, Committed, Aborted, Answered, Dropped, Kept}
use Rattle.node.specs.States.{State, is_idle}
use Rattle.node.specs.Steps.{Step, Setting, step}
use Rattle.node.specs.Nodes.{tick}
use Rattle.node.specs.Laws.{dictionary_after, node_after, in_block, is_start}

-- what is written down of the open write: nothing, or what its start said, what the next segment must have, and the data so far
pub data Notes : Type 0 where
  Nothing : Notes
  -- a write in segments: the toggle that the next one must have
  Segments : DownloadStart → Toggle → List ℕ → Notes
  -- a block write: the number that the next one must have in its sub-block
  Block : BlockStart → ℕ → List ℕ → Notes
  -- a block write whose last segment is there
  Whole : BlockStart → List ℕ → Notes

abbrev pub noted_start : Notes → DownloadStart
noted_start Nothing = record { multiplexor = record { index = 0; subindex = 0 }; size = None }
noted_start (Segments z t v) = z
noted_start (Block b s v) = b.download
noted_start (Whole b v) = b.download

abbrev pub noted : Notes → List ℕ
noted Nothing = []
noted (Segments z t v) = v
noted (Block b s v) = v
noted (Whole b v) = v

abbrev pub noted_toggle : Notes → Option Toggle
noted_toggle Nothing = None
noted_toggle (Segments z t v) = Some t
noted_toggle (Block b s v) = None
noted_toggle (Whole b v) = None

-- one more segment of a write is taken: the next one has the other toggle
abbrev pub extended : Notes → List ℕ → Notes
extended Nothing x = Nothing
extended (Segments z t v) x = Segments z (other t) (v ++ x)
extended (Block b s v) x = Block b s v
extended (Whole b v) x = Whole b v

-- the notes by what serve told: others where the frame was answered or kept, none where the transfer is over, else the same
abbrev pub noted_by : Served → Notes → Notes → Notes → Notes
noted_by NothingWaited answered kept same = same
noted_by Committed answered kept same = Nothing
noted_by Aborted answered kept same = Nothing
noted_by Answered answered kept same = answered
noted_by Dropped answered kept same = same
noted_by Kept answered kept same = kept

-- a request that was answered: a start of a write begins new notes, a segment of one adds its data
abbrev pub after_request : Notes → Request → Notes
after_request w (request.InitiateDownload m (coming.Expedited v)) = Nothing
after_request w (request.InitiateDownload m (coming.Segmented size)) = Segments (record { multiplexor = m; size = size }) Zero []
after_request w (request.DownloadSegment u x last) = extended w x
after_request w (request.InitiateUpload m) = Nothing
after_request w (request.UploadSegment u) = Nothing
after_request w (request.InitiateBlockDownload m c size) = Block (record { download = record { multiplexor = m; size = size }; crc = c }) 1 []
after_request w (request.EndBlockDownload unused k) = w
after_request w (request.Abort m c) = w

abbrev pub after_known : Notes → Served → Option Request → Notes
after_known w r None = noted_by r w w w
after_known w r (Some q) = noted_by r (after_request w q) w w

-- an acknowledgement of the awaited number tells that the segment was kept, another that it was not; behind the last segment the notes are whole
abbrev pub acknowledged : BlockStart → ℕ → List ℕ → Bool → List ℕ → Option Answer → Notes
acknowledged b s v last x None = Block b s v
acknowledged b s v last x (Some (answer.InitiateDownload n)) = Block b s v
acknowledged b s v last x (Some (answer.DownloadSegment t)) = Block b s v
acknowledged b s v last x (Some (answer.InitiateUpload n t)) = Block b s v
acknowledged b s v last x (Some (answer.UploadSegment t y z)) = Block b s v
acknowledged b s v last x (Some (answer.InitiateBlockDownload n c k)) = Block b s v
acknowledged b s v last x (Some (answer.AcknowledgeBlock a n)) = cond (a == s) (cond last (Whole b (v ++ x)) (Block b 1 (v ++ x))) (Block b 1 v)
acknowledged b s v last x (Some answer.EndBlockDownload) = Block b s v
acknowledged b s v last x (Some (answer.Abort n c)) = Block b s v

-- a message in block reception: a segment that is kept adds its seven bytes
abbrev pub after_block : BlockStart → ℕ → List ℕ → Served → Option Answer → BlockRequest → Notes
after_block b s v r a (block.Segment last k x) = noted_by r (acknowledged b s v last x a) (Block b (s + 1) (v ++ x)) (Block b s v)
after_block b s v r a (block.Abort n c) = noted_by r (Block b s v) (Block b s v) (Block b s v)

-- the notes after a frame with some bytes, by what serve told and what was answered
abbrev pub notes_after : Notes → List ℕ → Served → Option Answer → Notes
notes_after Nothing bytes r a = after_known Nothing r (request_in bytes)
notes_after (Segments z t v) bytes r a = after_known (Segments z t v) r (request_in bytes)
notes_after (Block b s v) bytes r a = after_block b s v r a (block_request_in bytes)
notes_after (Whole b v) bytes r a = after_known (Whole b v) r (request_in bytes)

-- an abort in a tick ends a transfer
abbrev pub notes_by : Option Answer → Notes → Notes
notes_by None w = w
notes_by (Some a) w = Nothing

-- a dictionary, its node, and the notes
pub record Scene : Type 0 where
  pub dictionary : List Entry
  pub node : State
  pub notes : Notes

pub data Event : Type 0 where
  Serve : Option Frame → Event
  Tick : Event

abbrev pub happened : Event → Scene → Scene
happened (Serve None) x = x
happened (Serve (Some f)) x = record x {
  dictionary = dictionary_after x.dictionary x.node (Some f);
  node = node_after x.dictionary x.node (Some f);
  notes = notes_after x.notes f.bytes (step x.dictionary x.node (Some f)).served (step x.dictionary x.node (Some f)).reply;
}
happened Tick x = record x { node = (tick x.node).next; notes = notes_by (tick x.node).reply x.notes }

-- one event after the other
abbrev pub run : List Event → Scene → Scene
run [] x = x
run (e ∷ es) x = run es (happened e x)

-- a frame starts a transfer: it is for the node, which is not in block reception, and asks for one
abbrev pub asks_start : Option Request → Bool
asks_start None = false
asks_start (Some q) = is_start q

abbrev pub frame_starts : State → Frame → Bool
frame_starts s f = cond (f.identifier.number == (request_identifier s.number).number) (cond (in_block s.activity) false (asks_start (request_in f.bytes))) false

abbrev pub starts : State → Event → Bool
starts s (Serve None) = false
starts s (Serve (Some f)) = frame_starts s f
starts s Tick = false

-- none of some events starts a transfer
abbrev pub startless : Scene → List Event → Bool
startless x [] = true
startless x (e ∷ es) = cond (starts x.node e) false (startless (happened e x) es)

-- how many values are set in some events
abbrev pub number_of : Option Setting → ℕ
number_of None = 0
number_of (Some v) = 1

abbrev pub set_in : Scene → Event → ℕ
set_in x (Serve f) = number_of (step x.dictionary x.node f).set
set_in x Tick = 0

abbrev pub commits_in : Scene → List Event → ℕ
commits_in x [] = 0
commits_in x (e ∷ es) = set_in x e + commits_in (happened e x) es

-- in a transfer, from its start or any other event up to the next start, one value is set at most
abbrev pub OneAtMost : Type 0
OneAtMost = (x : Scene) (e : Event) (es : List Event) → startless (happened e x) es ≡ true → commits_in x (e ∷ es) ≤ 1

-- the write that a request completes: an expedited start its own, a last segment the noted one with its data,
-- and a block's end the noted one without the bytes that the last segment left unused
abbrev pub to : Multiplexor → List ℕ → Setting
to m v = record { multiplexor = m; value = v }

abbrev pub carried : Notes → Request → Setting
carried w (request.InitiateDownload m (coming.Expedited v)) = to m v
carried w (request.InitiateDownload m (coming.Segmented size)) = to m []
carried w (request.DownloadSegment u x last) = to (noted_start w).multiplexor (noted w ++ x)
carried w (request.InitiateUpload m) = to m []
carried w (request.UploadSegment u) = to (noted_start w).multiplexor []
carried w (request.InitiateBlockDownload m c size) = to m []
carried w (request.EndBlockDownload unused k) = to (noted_start w).multiplexor (take (length (noted w) - unused) (noted w))
carried w (request.Abort m c) = to (noted_start w).multiplexor []

-- the size that the start of the write announced, where the value comes behind it
abbrev pub announced_size : Notes → Request → Option ℕ
announced_size w (request.InitiateDownload m how) = None
announced_size w q = (noted_start w).size

-- the CRC that a block's end gives, where the start offered one
abbrev pub offered : CrcOffer → ℕ → Option ℕ
offered Offered k = Some k
offered NotOffered k = None

abbrev pub noted_offer : Notes → CrcOffer
noted_offer Nothing = NotOffered
noted_offer (Segments z t v) = NotOffered
noted_offer (Block b s v) = b.crc
noted_offer (Whole b v) = b.crc

abbrev pub given_crc : Notes → Request → Option ℕ
given_crc w (request.EndBlockDownload unused k) = offered (noted_offer w) k
given_crc w q = None

-- a request completes a write: with the notes it makes up what is set, and where, as it was announced
pub record Completes (w : Notes) (q : Request) (x : Setting) : Type 0 where
  pub whole : x ≡ carried w q
  pub last : completes q ≡ true
  pub sized : (n : ℕ) → announced_size w q ≡ Some n → length x.value ≡ n
  pub checked : (k : ℕ) → given_crc w q ≡ Some k → crc x.value ≡ k

-- a frame asks for something
pub record Says (P : Request → Type 0) (f : Frame) : Type 0 where
  pub message : Request
  pub said : request_in f.bytes ≡ Some message
  pub so : P message

-- a segment of a write by its toggle, which is the one that the notes await
pub record InTurn (w : Notes) (t : Toggle) (q : Request) : Type 0 where
  pub bytes : List ℕ
  pub last : Bool
  pub segment : q ≡ request.DownloadSegment t bytes last
  pub awaited : noted_toggle w ≡ Some t

-- a run from an idle node
abbrev pub past : List Entry → State → List Event → Scene
past d s es = run es (record { dictionary = d; node = s; notes = Nothing })

abbrev pub step_after : List Entry → State → List Event → Frame → Step
step_after d s es f = step (past d s es).dictionary (past d s es).node (Some f)

-- in every run from an idle node, each value that is set has exactly the bytes that the segments carried which were taken since the start,
-- and is set where that start said; it has the size that was announced, and the CRC that was given
abbrev pub ValuesCarried : Type 0
ValuesCarried =
    (d : List Entry) (s : State) → is_idle s.activity ≡ true → (es : List Event) (f : Frame) (x : Setting)
    → (step_after d s es f).set ≡ Some x → Says (λ q. Completes (past d s es).notes q x) f

-- and the segments of a write are answered in turn: with toggle 0 the first, and then with the other toggle each time
abbrev pub TogglesAlternate : Type 0
TogglesAlternate =
    (d : List Entry) (s : State) → is_idle s.activity ≡ true → (es : List Event) (f : Frame) (t : Toggle)
    → (step_after d s es f).reply ≡ Some (answer.DownloadSegment t) → Says (InTurn (past d s es).notes t) f
