-- Every step is of one of seven kinds.
use Rattle.std.proofs.Common.{◌≡◌, ℕ, ◌-◌, Bool, true, false, eqb, ltb, leb, List, [], ◌++◌, length, take, drop, Some, None, Option, refl}
use Rattle.wire.specs.declared.multiplexor.Multiplexor.{Multiplexor}
use Rattle.wire.specs.declared.abort_code.AbortCode.{AbortCode}
use Rattle.wire.specs.declared.frame.Frame.{Frame}
use Rattle.wire.specs.Frames.{request_identifier}
use Rattle.sdo.specs.declared.crc_offer.CrcOffer.TheVariants.{Offered}
use Rattle.sdo.specs.declared.toggle.Toggle.{Toggle}
use Rattle.sdo.specs.declared.toggle.Toggle.TheVariants.{Zero}
use Rattle.sdo.specs.FrameData.{fits_expedited}
use Rattle.sdo.specs.Segments.{differs, other, same_toggle}
use Rattle.dictionary.specs.Questions.{value_at}
use Rattle.sdo.specs.Answers.{Answer}
use Rattle.sdo.specs.Answers as answer
use Rattle.sdo.specs.BlockRequests.{BlockRequest, block_request_in}
use Rattle.sdo.specs.BlockRequests as block
use Rattle.sdo.specs.Requests.{Request, request_in}
use Rattle.sdo.specs.Requests as request
use Rattle.sdo.specs.Transfers as coming
use Rattle.dictionary.specs.Entries.{Entry}
use Rattle.dictionary.specs.Verdicts.{write_verdict, start_verdict, read_verdict}
use Rattle.node.specs.declared.block_start.BlockStart.{BlockStart}
use Rattle.node.specs.declared.download_start.DownloadStart.{DownloadStart}
use Rattle.node.specs.declared.reception.Reception.{Reception}
use Rattle.node.proofs.Choosing.{chosen, judged}
use Rattle.node.specs.States.{State, Activity, Idle, Download, Upload, BlockDownload, BlockEnd, next_sub_block, is_idle}
use Rattle.node.specs.Buffers.{full}
use Rattle.node.specs.Steps.{crc_differs, given, ends, Step, committed, refused, ended, answered, dropped, kept, nothing, unless, commit, completed, received, download_segment, upload_segment, block_end, asked, understood, keep, spoil, asked_in_block, interpreted, step}

abbrev pub says_abort : Answer → Bool
says_abort (answer.InitiateDownload m) = false
says_abort (answer.DownloadSegment t) = false
says_abort (answer.InitiateUpload m t) = false
says_abort (answer.UploadSegment t v last) = false
says_abort (answer.InitiateBlockDownload m crc size) = false
says_abort (answer.AcknowledgeBlock k size) = false
says_abort answer.EndBlockDownload = false
says_abort (answer.Abort m c) = true

pub data Kind (d : List Entry) : Step → Type 0 where
  commits : (m : Multiplexor) (v : List ℕ) (a : Answer) → write_verdict d m v ≡ None → Kind d (committed m v a)
  refuses : (m : Multiplexor) (c : AbortCode) → Kind d (refused m c)
  stops : Kind d ended
  answers : (t : Activity) (a : Answer) → says_abort a ≡ false → Kind d (answered t a)
  drops : (t : Activity) → Kind d (dropped t)
  keeps : (t : Activity) → Kind d (kept t)
  waits : (t : Activity) → Kind d (nothing t)

module _ (d : List Entry) where
  decided : (w : Option AbortCode) (m : Multiplexor) (v : List ℕ) (a : Answer) → write_verdict d m v ≡ w → Kind d (unless w m (committed m v a))
  decided None m v a e = commits m v a e
  decided (Some c) m v a e = refuses m c

  commit-kind : (m : Multiplexor) (v : List ℕ) (a : Answer) → Kind d (commit d m v a)
  commit-kind m v a = decided (write_verdict d m v) m v a refl

  completed-kind : (w : DownloadStart) (v : List ℕ) (a : Answer) → Kind d (completed d w v a)
  completed-kind w v a = chosen (Kind d) (differs w.size (length v)) (refuses _ _) (commit-kind w.multiplexor v a)

  received-kind : (w : DownloadStart) (t : Toggle) (last : Bool) (v : List ℕ) → Kind d (received d w t last v)
  received-kind w t last v = chosen (Kind d) (ltb 1024 (length v)) (refuses _ _) (chosen (Kind d) last (completed-kind w v (answer.DownloadSegment t)) (answers (Download w (other t) v) (answer.DownloadSegment t) refl))

  download_kind : (t : Activity) (u : Toggle) (x : List ℕ) (last : Bool) → Kind d (download_segment d t u x last)
  download_kind Idle u x last = refuses _ _
  download_kind (Download w y v) u x last = chosen (Kind d) (same_toggle u y) (received-kind w u last (v ++ x)) (refuses _ _)
  download_kind (Upload m y v) u x last = refuses _ _
  download_kind (BlockDownload r v) u x last = refuses _ _
  download_kind (BlockEnd b v) u x last = refuses _ _

  upload_kind : (t : Activity) (u : Toggle) → Kind d (upload_segment t u)
  upload_kind Idle u = refuses _ _
  upload_kind (Download w x v) u = refuses _ _
  upload_kind (Upload m x v) u = chosen (Kind d) (same_toggle u x) (chosen (Kind d) (leb (length v) 7) (answers Idle (answer.UploadSegment u v true) refl) (answers (Upload m (other u) (drop 7 v)) (answer.UploadSegment u (take 7 v) false) refl)) (refuses _ _)
  upload_kind (BlockDownload r v) u = refuses _ _
  upload_kind (BlockEnd b v) u = refuses _ _

  end_kind : (t : Activity) (n k : ℕ) → Kind d (block_end d t n k)
  end_kind Idle n k = refuses _ _
  end_kind (Download w x v) n k = refuses _ _
  end_kind (Upload m x v) n k = refuses _ _
  end_kind (BlockDownload r v) n k = refuses _ _
  end_kind (BlockEnd b v) n k =
      chosen (Kind d) (crc_differs b.crc k (take (length v - n) v)) (refuses _ _) (completed-kind b.download (take (length v - n) v) answer.EndBlockDownload)

  given-kind : (m : Multiplexor) (v : List ℕ) → Kind d (given m v)
  given-kind m v =
      chosen (Kind d) (fits_expedited v) (answers Idle (answer.InitiateUpload m (coming.Expedited v)) refl)
      (answers (Upload m Zero v) (answer.InitiateUpload m (coming.Segmented (Some (length v)))) refl)

  asked-kind : (n : ℕ) (t : Activity) (q : Request) → Kind d (asked d n t q)
  asked-kind n t (request.InitiateDownload m (coming.Expedited v)) = commit-kind m v (answer.InitiateDownload m)
  asked-kind n t (request.InitiateDownload m (coming.Segmented size)) = judged (Kind d) (start_verdict d m size) m (refuses m) (answers (Download (record { multiplexor = m; size = size }) Zero []) (answer.InitiateDownload m) refl)
  asked-kind n t (request.DownloadSegment u w last) = download_kind t u w last
  asked-kind n t (request.InitiateUpload m) = judged (Kind d) (read_verdict d m) m (refuses m) (given-kind m (value_at d m))
  asked-kind n t (request.UploadSegment u) = upload_kind t u
  asked-kind n t (request.InitiateBlockDownload m c size) =
      judged (Kind d) (start_verdict d m size) m (refuses m)
      (answers (BlockDownload (next_sub_block (record { download = record { multiplexor = m; size = size }; crc = c })) []) (answer.InitiateBlockDownload m Offered n) refl)
  asked-kind n t (request.EndBlockDownload unused k) = end_kind t unused k
  asked-kind n t (request.Abort m c) = chosen (Kind d) (is_idle t) (drops t) stops

  understood-kind : (n : ℕ) (t : Activity) (q : Option Request) → Kind d (understood d n t q)
  understood-kind n t None = refuses _ _
  understood-kind n t (Some q) = asked-kind n t q

  spoil-kind : (n : ℕ) (r : Reception) (v : List ℕ) (last : Bool) (k : ℕ) → Kind d (spoil n r v last k)
  spoil-kind n r v last k = chosen (Kind d) (ends n last k) (refuses _ _) (drops _)

  keep-kind : (n : ℕ) (b : BlockStart) (last : Bool) (k : ℕ) (v : List ℕ) → Kind d (keep n b last k v)
  keep-kind n b last k v =
      chosen (Kind d) last (answers (BlockEnd b v) (answer.AcknowledgeBlock k n) refl)
      (chosen (Kind d) (eqb k n) (answers (BlockDownload (next_sub_block b) v) (answer.AcknowledgeBlock k n) refl) (keeps _))

  block_kind : (n : ℕ) (r : Reception) (v : List ℕ) (q : BlockRequest) → Kind d (asked_in_block n r v q)
  block_kind n r v (block.Segment last k x) =
      chosen (Kind d) r.spoiled (spoil-kind n r v last k)
      (chosen (Kind d) (eqb k r.expected) (chosen (Kind d) (full v) (spoil-kind n r v last k) (keep-kind n r.start last k (v ++ x)))
      (chosen (Kind d) (ends n last k) (answers (BlockDownload (next_sub_block r.start) v) (answer.AcknowledgeBlock (r.expected - 1) n) refl) (drops _)))
  block_kind n r v (block.Abort m c) = stops

  interpreted-kind : (n : ℕ) (t : Activity) (bytes : List ℕ) → Kind d (interpreted d n t bytes)
  interpreted-kind n Idle bytes = understood-kind n Idle (request_in bytes)
  interpreted-kind n (Download w u v) bytes = understood-kind n (Download w u v) (request_in bytes)
  interpreted-kind n (Upload m u v) bytes = understood-kind n (Upload m u v) (request_in bytes)
  interpreted-kind n (BlockDownload r v) bytes = block_kind n r v (block_request_in bytes)
  interpreted-kind n (BlockEnd b v) bytes = understood-kind n (BlockEnd b v) (request_in bytes)

  pub step-kind : (s : State) (f : Option Frame) → Kind d (step d s f)
  unfolding step
  step-kind s None = waits _
  step-kind s (Some f) = chosen (Kind d) (eqb f.identifier.number (request_identifier s.number).number) (interpreted-kind s.block_size.number s.activity f.bytes) (drops _)
