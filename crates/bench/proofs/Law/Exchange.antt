-- The exchange between the two ends of a bench, request by request and answer by answer, while a transfer is open.
-- d is the dictionary as it was at the begin, M the master, nb the node's block size.
use Rattle.std.proofs.Common.{◌≡◌, ℕ, zero, suc, ◌+◌, ◌-◌, ◌*◌, ◌<◌, ◌≤◌, Bool, true, false, cond, ◌⊎◌, List, [], ◌∷◌, ◌++◌, length, take, drop, map, Some, None, Option}
use Rattle.wire.specs.declared.abort_code.AbortCode.{AbortCode}
use Rattle.sdo.specs.Fits.{Proper}
use Rattle.sdo.specs.Transfers.{Expedited, Segmented}
use Rattle.crc.specs.Registers.{crc}
use Rattle.sdo.specs.declared.crc_offer.CrcOffer.TheVariants.{Offered}
use Rattle.sdo.specs.declared.toggle.Toggle.{Toggle}
use Rattle.sdo.specs.declared.toggle.Toggle.TheVariants.{Zero}
use Rattle.sdo.specs.Segments.{segment, other}
use Rattle.sdo.specs.Requests.{Request}
use Rattle.sdo.specs.Requests as request
use Rattle.sdo.specs.Answers.{Answer}
use Rattle.sdo.specs.Answers as answer
use Rattle.sdo.specs.Frames.{request_frame, answer_frame}
use Rattle.dictionary.specs.Entries.{Entry}
use Rattle.dictionary.specs.Questions.{value_at}
use Rattle.dictionary.specs.Verdicts.{read_verdict, write_verdict}
use Rattle.master.specs.declared.phase.Awaiting.{Awaiting}
use Rattle.master.specs.declared.phase.Awaiting.TheVariants as awaiting
use Rattle.master.specs.declared.phase.SubBlock.{SubBlock}
use Rattle.master.specs.SubBlocks.{block_segment}
use Rattle.master.specs.States as master
use Rattle.master.specs.Steps.{may_have_set}
use Rattle.master.specs.Values.{segments, unused, is_last}
use Rattle.node.specs.declared.block_start.BlockStart.{BlockStart}
use Rattle.node.specs.declared.download_start.DownloadStart.{DownloadStart}
use Rattle.node.specs.States.{Activity, Idle, Download, Upload, BlockDownload, BlockEnd, next_sub_block, is_idle}
use Rattle.node.specs.Steps.{Setting}
use Rattle.master.specs.declared.direction.Direction.{Direction}
use Rattle.master.specs.declared.direction.Direction.TheVariants as way
use Rattle.bench.specs.Model.States.{State}

-- what the start of the master's write says
abbrev pub order_start : master.State → DownloadStart
order_start M = record { multiplexor = M.multiplexor; size = Some (length M.value) }

abbrev pub block_order : master.State → BlockStart
block_order M = record { download = order_start M; crc = Offered }

-- the verdict on the master's order
abbrev pub verdict : Direction → List Entry → master.State → Option AbortCode
verdict way.Upload d M = read_verdict d M.multiplexor
verdict way.Download d M = write_verdict d M.multiplexor M.value

-- what the node sets where it sets the master's value
abbrev pub setting_if : Bool → master.State → Option Setting
setting_if set M = cond set (Some (record { multiplexor = M.multiplexor; value = M.value })) None

-- a value of a length that a value can have
pub record Orderly (M : master.State) : Type 0 where
  pub some : 1 ≤ length M.value
  pub bounded : length M.value ≤ 1024

-- a read that is under way: what has come and what is left are the entry's value
pub record Reading (d : List Entry) (M : master.State) (rest : List ℕ) : Type 0 where
  pub whole : M.value ++ rest ≡ value_at d M.multiplexor
  pub allowed : read_verdict d M.multiplexor ≡ None
  pub some : 1 ≤ length rest
  pub bounded : length (value_at d M.multiplexor) ≤ 1024
  pub asked : 7 * M.highest ≤ length M.value + 7

-- by what the master awaits: the node's transfer, and the one request that the node has still to take
pub data Ready (d : List Entry) (M : master.State) : Direction → Awaiting → Activity → Request → Type 0 where
  at_once : 1 ≤ length M.value → length M.value ≤ 4 → Ready d M way.Download awaiting.ExpeditedDownload Idle (request.InitiateDownload M.multiplexor (Expedited M.value))
  in_segments : Orderly M → Ready d M way.Download awaiting.InitiateDownload Idle (request.InitiateDownload M.multiplexor (Segmented (Some (length M.value))))
  by_block : Orderly M → Ready d M way.Download awaiting.InitiateBlockDownload Idle (request.InitiateBlockDownload M.multiplexor Offered (Some (length M.value)))
  one_more : (t : Toggle) (j : ℕ) → Orderly M → 7 * j < length M.value → Ready d M way.Download (awaiting.DownloadSegment t (j + 1)) (Download (order_start M) t (take (7 * j) M.value)) (request.DownloadSegment t (segment (j + 1) M.value) (is_last M.value (j + 1)))
  closing : (w : List ℕ) → Orderly M → take (length w - unused M.value) w ≡ M.value → Ready d M way.Download awaiting.EndBlockDownload (BlockEnd (block_order M) w) (request.EndBlockDownload (unused M.value) (crc M.value))
  to_read : M.value ≡ [] → M.highest ≡ 0 → Ready d M way.Upload awaiting.InitiateUpload Idle (request.InitiateUpload M.multiplexor)
  asking : (t : Toggle) (rest : List ℕ) → Reading d M rest → Ready d M way.Upload (awaiting.UploadSegment t (Some (length (value_at d M.multiplexor)))) (Upload M.multiplexor t rest) (request.UploadSegment t)

-- a sub-block that the master has sent
pub record SubBlockSent (M : master.State) (nb : ℕ) (x : SubBlock) : Type 0 where
  pub orderly : Orderly M
  pub crc : x.crc ≡ Offered
  pub some : 1 ≤ x.count
  pub fitting : x.count ≤ nb
  pub few : nb ≤ 127
  pub within : x.acknowledged + x.count ≤ segments M.value
  pub ends : (x.count ≡ nb) ⊎ (x.acknowledged + x.count ≡ segments M.value)
  pub short : x.short ≤ 8

-- by what the master awaits: the node's transfer once it has taken all that was sent, whether the master's value was set,
-- whether the line has lost a frame, and the node's answer
pub data Replies (d : List Entry) (M : master.State) (nb : ℕ) : Direction → Awaiting → Activity → Bool → Bool → Answer → Type 0 where
  refuses : (dir : Direction) (w : Awaiting) (lost : Bool) (c : AbortCode) → verdict dir d M ≡ Some c → Proper c → Replies d M nb dir w Idle false lost (answer.Abort M.multiplexor c)
  sets_at_once : (lost : Bool) → write_verdict d M.multiplexor M.value ≡ None → Replies d M nb way.Download awaiting.ExpeditedDownload Idle true lost (answer.InitiateDownload M.multiplexor)
  sets_segments : (lost : Bool) (t : Toggle) (k : ℕ) → is_last M.value k ≡ true → write_verdict d M.multiplexor M.value ≡ None → Replies d M nb way.Download (awaiting.DownloadSegment t k) Idle true lost (answer.DownloadSegment t)
  sets_block : (lost : Bool) → write_verdict d M.multiplexor M.value ≡ None → Replies d M nb way.Download awaiting.EndBlockDownload Idle true lost answer.EndBlockDownload
  starts : (lost : Bool) → Orderly M → Replies d M nb way.Download awaiting.InitiateDownload (Download (order_start M) Zero []) false lost (answer.InitiateDownload M.multiplexor)
  takes : (lost : Bool) (t : Toggle) (j : ℕ) → Orderly M → 7 * (j + 1) < length M.value → Replies d M nb way.Download (awaiting.DownloadSegment t (j + 1)) (Download (order_start M) (other t) (take (7 * (j + 1)) M.value)) false lost (answer.DownloadSegment t)
  gives_at_once : (lost : Bool) → read_verdict d M.multiplexor ≡ None → 1 ≤ length (value_at d M.multiplexor) → length (value_at d M.multiplexor) ≤ 4 → Replies d M nb way.Upload awaiting.InitiateUpload Idle false lost (answer.InitiateUpload M.multiplexor (Expedited (value_at d M.multiplexor)))
  announces : (lost : Bool) → M.value ≡ [] → M.highest ≡ 0 → Reading d M (value_at d M.multiplexor) → Replies d M nb way.Upload awaiting.InitiateUpload (Upload M.multiplexor Zero (value_at d M.multiplexor)) false lost (answer.InitiateUpload M.multiplexor (Segmented (Some (length (value_at d M.multiplexor)))))
  gives : (lost : Bool) (t : Toggle) (rest : List ℕ) → Reading d M rest → 7 < length rest → Replies d M nb way.Upload (awaiting.UploadSegment t (Some (length (value_at d M.multiplexor)))) (Upload M.multiplexor (other t) (drop 7 rest)) false lost (answer.UploadSegment t (take 7 rest) false)
  gives_last : (lost : Bool) (t : Toggle) (rest : List ℕ) → Reading d M rest → length rest ≤ 7 → Replies d M nb way.Upload (awaiting.UploadSegment t (Some (length (value_at d M.multiplexor)))) Idle false lost (answer.UploadSegment t rest true)
  starts_block : (lost : Bool) → Orderly M → 1 ≤ nb → nb ≤ 127 → Replies d M nb way.Download awaiting.InitiateBlockDownload (BlockDownload (next_sub_block (block_order M)) []) false lost (answer.InitiateBlockDownload M.multiplexor Offered nb)
  keeps : (lost : Bool) (x : SubBlock) (a : ℕ) → SubBlockSent M nb x → a ≤ x.count → (a < x.count → lost ≡ true) → x.acknowledged + a < segments M.value → Replies d M nb way.Download (awaiting.BlockDownload x) (BlockDownload (next_sub_block (block_order M)) (take (7 * (x.acknowledged + a)) M.value)) false lost (answer.AcknowledgeBlock a nb)
  keeps_all : (lost : Bool) (x : SubBlock) (w : List ℕ) → SubBlockSent M nb x → x.acknowledged + x.count ≡ segments M.value → take (length w - unused M.value) w ≡ M.value → Replies d M nb way.Download (awaiting.BlockDownload x) (BlockEnd (block_order M) w) false lost (answer.AcknowledgeBlock x.count nb)

-- numbers that rise strictly, above one number and up to another
abbrev pub Rising : ℕ → ℕ → List ℕ → Type 0
Rising low high [] = Unit {0}
Rising low high (n ∷ ns) = (low < n) × (n ≤ high) × Rising n high ns

-- the next k numbers above one
abbrev pub numbers : ℕ → ℕ → List ℕ
numbers low zero = []
numbers low (suc k) = (low + 1) ∷ numbers (low + 1) k

-- a sub-block of which the node has kept the first segments; those with the numbers ns have still to be taken
pub record BlockAsks (M : master.State) (nb : ℕ) (x : SubBlock) (t : Activity) (lost : Bool) (ns : List ℕ) : Type 0 where
  pub sent : SubBlockSent M nb x
  -- how many of the sub-block were kept, and the highest number that the node has taken
  pub kept : ℕ
  pub passed : ℕ
  pub wanting : kept < x.count
  pub up : kept ≤ passed
  pub activity : t ≡ BlockDownload (record { start = block_order M; expected = kept + 1; spoiled = false }) (take (7 * (x.acknowledged + kept)) M.value)
  pub rising : Rising passed x.count ns
  pub clear : lost ≡ false → ns ≡ numbers kept (x.count - kept)

-- how long a busy node has taken no frame: no longer than the master has waited, and some ticks
abbrev pub Waited : State → ℕ → Type 0
Waited s more = (is_idle s.node.activity ≡ true) ⊎ (s.node.ticks ≤ s.master.ticks + more)

-- an open transfer, by what the master awaits and whether the value was set that it is to write
pub data Flight (d : List Entry) (s : State) (w : Awaiting) : Bool → Type 0 where
  asks : (q : Request) → Ready d s.master s.master.direction w s.node.activity q → s.line.to_node ≡ request_frame s.master.node q ∷ [] → s.line.to_master ≡ [] → Waited s 9 → Flight d s w false
  asks_block : (x : SubBlock) (n : ℕ) (ns : List ℕ) → w ≡ awaiting.BlockDownload x → s.master.direction ≡ way.Download → BlockAsks s.master s.node.block_size.number x s.node.activity s.line.lost (n ∷ ns) → s.line.to_node ≡ map (block_segment s.master.node s.master.value x.acknowledged) (n ∷ ns) → s.line.to_master ≡ [] → Waited s 9 → Flight d s w false
  answered : (ahead : Bool) (a : Answer) → Replies d s.master s.node.block_size.number s.master.direction w s.node.activity ahead s.line.lost a → s.line.to_node ≡ [] → s.line.to_master ≡ answer_frame s.node.number a ∷ [] → Waited s 0 → Flight d s w ahead
  silent : (ahead : Bool) → s.line.to_node ≡ [] → s.line.to_master ≡ [] → s.line.lost ≡ true → (ahead ≡ true → (may_have_set w s.master.value ≡ true) × (s.master.direction ≡ way.Download)) → Waited s 9 → Flight d s w ahead
