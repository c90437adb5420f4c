-- What a node makes of starts, of aborts and of what it does not await.
use Rattle.std.proofs.Common.{◌≡◌, ℕ, ◌+◌, ◌%◌, Bool, true, false, cond, eqb, List, Some, None, Option, sym, refl, ap, ◌∙◌, subst, inl, inr, eq-eqb, ne_eqb}
use Rattle.wire.specs.declared.frame.Frame.{Frame}
use Rattle.wire.specs.Frames.{request_identifier}
use Rattle.wire.specs.declared.abort_code.AbortCode.TheVariants.{UnknownCommand}
use Rattle.sdo.specs.Fields.{b, multiplexor_in, abort_code_in, bit7, last_seven}
use Rattle.sdo.specs.BlockRequests.{BlockRequest, block_request_in, block_segment_in}
use Rattle.sdo.specs.BlockRequests as block
use Rattle.sdo.specs.Requests.{Request, request_in}
use Rattle.sdo.specs.Requests as request
use Rattle.dictionary.specs.Entries.{Entry}
use Rattle.node.specs.declared.block_start.BlockStart.{BlockStart}
use Rattle.node.specs.declared.reception.Reception.{Reception}
use Rattle.node.specs.Buffers.{full}
use Rattle.node.specs.States.{State, Activity, Idle, Download, Upload, BlockDownload, BlockEnd, is_idle, named}
use Rattle.node.specs.Steps.{ended, dropped, refused, ends, spoil, block_segment, asked, understood, asked_in_block, interpreted, step}
use Rattle.node.specs.Laws.{Asks, ForeignDropped, in_block, is_start, is_abort, awaits, idled, StartsReplace, AbortsEnd, OthersRefused, UnknownRefused, BlockAborted, begun_by, Stays, BlockStays}
use Rattle.node.proofs.Choosing.{chosen}
use Rattle.node.proofs.Turning.{addressed}

pub foreign_dropped : ForeignDropped
unfolding step
foreign_dropped d s f h = rw (ne_eqb f.identifier.number (0x600 + s.number.number) h)

-- bytes outside of block reception
elsewhere : (d : List Entry) (n : ℕ) (t : Activity) (bytes : List ℕ) → in_block t ≡ false → interpreted d n t bytes ≡ understood d n t (request_in bytes)
elsewhere d n Idle bytes h = refl
elsewhere d n (Download z u v) bytes h = refl
elsewhere d n (Upload m u v) bytes h = refl
elsewhere d n (BlockDownload r v) bytes h = cc
elsewhere d n (BlockEnd b v) bytes h = refl

pub asks : (d : List Entry) (s : State) (f : Frame) (q : Option Request) → Asks s f q → step d s (Some f) ≡ understood d s.block_size.number s.activity q
unfolding step
asks d s f q h =
    sym (addressed d s f h.own) ∙ elsewhere d s.block_size.number s.activity f.bytes h.elsewhere ∙ ap (understood d s.block_size.number s.activity) h.said

-- a start does not look at the transfer
replaces : (d : List Entry) (n : ℕ) (t : Activity) (q : Request) → is_start q ≡ true → asked d n t q ≡ asked d n Idle q
replaces d n t (request.InitiateDownload m how) h = refl
replaces d n t (request.DownloadSegment u w last) h = cc
replaces d n t (request.InitiateUpload m) h = refl
replaces d n t (request.UploadSegment u) h = cc
replaces d n t (request.InitiateBlockDownload m c size) h = refl
replaces d n t (request.EndBlockDownload unused k) h = cc
replaces d n t (request.Abort m c) h = cc

pub starts_replace : StartsReplace
starts_replace d s f q h start =
    asks d s f (Some q) h ∙ replaces d s.block_size.number s.activity q start
    ∙ sym (asks d (idled s) f (Some q) (record { own = h.own; elsewhere = refl; said = h.said }))

-- an abort
dropped_idle : (t : Activity) → is_idle t ≡ true → cond (is_idle t) (dropped t) ended ≡ dropped Idle
dropped_idle Idle h = refl
dropped_idle (Download z u v) h = cc
dropped_idle (Upload m u v) h = cc
dropped_idle (BlockDownload r v) h = cc
dropped_idle (BlockEnd b v) h = cc

aborts : (d : List Entry) (n : ℕ) (t : Activity) (q : Request) → is_abort q ≡ true → asked d n t q ≡ cond (is_idle t) (dropped t) ended
aborts d n t (request.InitiateDownload m how) h = cc
aborts d n t (request.DownloadSegment u w last) h = cc
aborts d n t (request.InitiateUpload m) h = cc
aborts d n t (request.UploadSegment u) h = cc
aborts d n t (request.InitiateBlockDownload m c size) h = cc
aborts d n t (request.EndBlockDownload unused k) h = cc
aborts d n t (request.Abort m c) h = refl

pub aborts_end : AbortsEnd
aborts_end d s f q h abort =
    let e = asks d s f (Some q) h ∙ aborts d s.block_size.number s.activity q abort in
    (λ idle. e ∙ dropped_idle s.activity idle, λ busy. e ∙ ap (λ x. cond x (dropped s.activity) ended) busy)

-- what is neither a start nor an abort nor awaited
others : (d : List Entry) (n : ℕ) (t : Activity) (q : Request) → is_start q ≡ false → is_abort q ≡ false → awaits t q ≡ false → asked d n t q ≡ refused (named t) UnknownCommand
others d n t (request.InitiateDownload m how) h k a = cc
others d n Idle (request.DownloadSegment u w last) h k a = refl
others d n (Download z x v) (request.DownloadSegment u w last) h k a = cc
others d n (Upload m x v) (request.DownloadSegment u w last) h k a = refl
others d n (BlockDownload r v) (request.DownloadSegment u w last) h k a = refl
others d n (BlockEnd b v) (request.DownloadSegment u w last) h k a = refl
others d n t (request.InitiateUpload m) h k a = cc
others d n Idle (request.UploadSegment u) h k a = refl
others d n (Download z x v) (request.UploadSegment u) h k a = refl
others d n (Upload m x v) (request.UploadSegment u) h k a = cc
others d n (BlockDownload r v) (request.UploadSegment u) h k a = refl
others d n (BlockEnd b v) (request.UploadSegment u) h k a = refl
others d n t (request.InitiateBlockDownload m c size) h k a = cc
others d n Idle (request.EndBlockDownload unused x) h k a = refl
others d n (Download z y v) (request.EndBlockDownload unused x) h k a = refl
others d n (Upload m y v) (request.EndBlockDownload unused x) h k a = refl
others d n (BlockDownload r v) (request.EndBlockDownload unused x) h k a = refl
others d n (BlockEnd b v) (request.EndBlockDownload unused x) h k a = cc
others d n t (request.Abort m c) h k a = cc

pub others_refused : OthersRefused
others_refused d s f q h start abort await = asks d s f (Some q) h ∙ others d s.block_size.number s.activity q start abort await

pub unknown_refused : UnknownRefused
unknown_refused d s f h = asks d s f None h

-- in block reception
in_block-aborted : (d : List Entry) (n : ℕ) (t : Activity) (bytes : List ℕ) → in_block t ≡ true → b 0 bytes ≡ 0x80 → interpreted d n t bytes ≡ ended
in_block-aborted d n Idle bytes h e = cc
in_block-aborted d n (Download z u v) bytes h e = cc
in_block-aborted d n (Upload m u v) bytes h e = cc
in_block-aborted d n (BlockDownload r v) bytes h e =
    ap (λ x. asked_in_block n r v (cond x (block.Abort (multiplexor_in bytes) (abort_code_in bytes)) (block_segment_in bytes))) (eq-eqb (b 0 bytes) 0x80 e)
in_block-aborted d n (BlockEnd w v) bytes h e = cc

pub block_aborted : BlockAborted
unfolding step
block_aborted d s f own h e = sym (addressed d s f own) ∙ in_block-aborted d s.block_size.number s.activity f.bytes h e

-- a segment leaves the node in its block write
module _ (n : ℕ) (r : Reception) (v : List ℕ) (last : Bool) (k : ℕ) where
  spoil_stays : Stays r.start (spoil n r v last k)
  spoil_stays = chosen (Stays r.start) (ends n last k) (inr refl) (inl refl)

  segment_stays : (x : List ℕ) → Stays r.start (block_segment n r v last k x)
  segment_stays x =
      let w = r.start in
      chosen (Stays w) r.spoiled spoil_stays
      (chosen (Stays w) (eqb k r.expected) (chosen (Stays w) (full v) spoil_stays (chosen (Stays w) last (inl refl) (chosen (Stays w) (eqb k n) (inl refl) (inl refl))))
      (chosen (Stays w) (ends n last k) (inl refl) (inl refl)))

bytes_stay : (d : List Entry) (n : ℕ) (t : Activity) (bytes : List ℕ) (w : BlockStart) → in_block t ≡ true → begun_by t ≡ Some w → (b 0 bytes ≡ 0x80 → ⊥) → Stays w (interpreted d n t bytes)
bytes_stay d n Idle bytes w h g e = cc
bytes_stay d n (Download z u v) bytes w h g e = cc
bytes_stay d n (Upload m u v) bytes w h g e = cc
bytes_stay d n (BlockDownload r v) bytes w h g e =
    let same : r.start ≡ w = cc in
    let stays = segment_stays n r v (bit7 (b 0 bytes)) (b 0 bytes % 128) (last_seven bytes) in
    let P : BlockRequest → Type 0 = λ q. Stays r.start (asked_in_block n r v q) in
    let said : block_segment_in bytes ≡ block_request_in bytes =
    sym (ap (λ y. cond y (block.Abort (multiplexor_in bytes) (abort_code_in bytes)) (block_segment_in bytes)) (ne_eqb (b 0 bytes) 0x80 e)) in
    subst (λ (c : BlockStart). Stays c (interpreted d n (BlockDownload r v) bytes)) same (subst P said stays)
bytes_stay d n (BlockEnd a v) bytes w h g e = cc

kept-begun : (t : Activity) (w : BlockStart) → begun_by t ≡ Some w → Stays w (dropped t)
kept-begun t w h = inl h

pub block_stays : BlockStays
unfolding step
block_stays d s f w h g e =
    chosen (Stays w) (eqb f.identifier.number (request_identifier s.number).number)
    (bytes_stay d s.block_size.number s.activity f.bytes w h g e) (kept-begun s.activity w g)
