-- A node sets a value only at a request with which the value is whole.
use Rattle.std.proofs.Common.{◌≡◌, ℕ, Bool, true, false, cond, eqb, List, Some, None, Option, sym, refl, ap, ◌∙◌, inl, inr}
use Rattle.std.proofs.lemmas.Bool.{cases_Bool, eqb-true}
use Rattle.wire.specs.declared.multiplexor.Multiplexor.{Multiplexor}
use Rattle.wire.specs.declared.abort_code.AbortCode.{AbortCode}
use Rattle.wire.specs.declared.frame.Frame.{Frame}
use Rattle.wire.specs.Frames.{request_identifier}
use Rattle.sdo.specs.Transfers.{Expedited, Segmented}
use Rattle.sdo.specs.BlockRequests.{BlockRequest, block_request_in}
use Rattle.sdo.specs.BlockRequests as block
use Rattle.sdo.specs.Requests.{Request, request_in, completes}
use Rattle.sdo.specs.Requests as request
use Rattle.dictionary.specs.Entries.{Entry}
use Rattle.node.specs.declared.reception.Reception.{Reception}
use Rattle.node.specs.declared.served.Served.{Served}
use Rattle.sdo.specs.Answers.{Answer}
use Rattle.node.specs.States.{State, Activity, Download, Upload, BlockDownload}
use Rattle.node.specs.Steps.{Step, Setting, turned, unless, asked, asked_in_block, understood, interpreted, dropped, step}
use Rattle.bench.specs.Law.Commits.{IsWhole, OnlyWholeValuesSet}

record Unset (p : Step) : Type 0 where
  none : p.set ≡ None

one_of : (b : Bool) (p q : Step) → Unset p → Unset q → Unset (cond b p q)
one_of true p q h k = h
one_of false p q h k = k

unless_none : (o : Option AbortCode) (m : Multiplexor) (p : Step) → Unset p → Unset (unless o m p)
unless_none None m p h = h
unless_none (Some c) m p h = record { none = refl }

turned_none : (t : Activity) (r : Served) (a : Option Answer) → Unset (turned t r a)
turned_none t r a = record { none = refl }

module _ (d : List Entry) (n : ℕ) where
  -- any other request sets nothing
  asked_none : (t : Activity) (q : Request) → completes q ≡ false → Unset (asked d n t q)
  asked_none t (request.InitiateDownload m (Expedited v)) e = cc
  asked_none t (request.InitiateDownload m (Segmented size)) e = search (one_of, unless_none, turned_none)
  asked_none t (request.DownloadSegment u x true) e = cc
  asked_none (Download w r v) (request.DownloadSegment u x false) e = search (one_of, unless_none, turned_none)
  asked_none t (request.DownloadSegment u x false) e = turned_none _ _ _
  asked_none t (request.InitiateUpload m) e = search (one_of, unless_none, turned_none)
  asked_none (Upload m r v) (request.UploadSegment u) e = search (one_of, unless_none, turned_none)
  asked_none t (request.UploadSegment u) e = turned_none _ _ _
  asked_none t (request.InitiateBlockDownload m c size) e = search (one_of, unless_none, turned_none)
  asked_none t (request.EndBlockDownload unused k) e = cc
  asked_none t (request.Abort m c) e = search (one_of, unless_none, turned_none)

  understood_whole : (s : State) (f : Frame) (t : Activity) (x : Setting) → f.identifier.number ≡ (request_identifier s.number).number → (o : Option Request) → request_in f.bytes ≡ o → (understood d n t o).set ≡ Some x → IsWhole s f
  understood_whole s f t x own None said set = cc
  understood_whole s f t x own (Some q) said set = elim (cases_Bool (completes q)) [
    | inl e ↦ record { own = own; request = q; read = said; completes = e }
    | inr e ↦ let none = (asked_none t q e).none in cc
  ]

  -- nothing that is read in block reception sets a value
  in_block-none : (r : Reception) (v : List ℕ) (q : BlockRequest) → Unset (asked_in_block n r v q)
  in_block-none r v (block.Segment last k x) = search (one_of, turned_none) depth 8
  in_block-none r v (block.Abort m c) = turned_none _ _ _

  interpreted_whole : (s : State) (f : Frame) (t : Activity) (x : Setting) → f.identifier.number ≡ (request_identifier s.number).number → (interpreted d n t f.bytes).set ≡ Some x → IsWhole s f
  interpreted_whole s f (BlockDownload r v) x own set = let none = (in_block-none r v (block_request_in f.bytes)).none in cc
  interpreted_whole s f t x own set = understood_whole s f t x own (request_in f.bytes) refl set

pub only_whole_values_set : OnlyWholeValuesSet
unfolding step
only_whole_values_set d s f x set = elim (cases_Bool (eqb f.identifier.number (request_identifier s.number).number)) [
  | inl e ↦ interpreted_whole d s.block_size.number s f s.activity x (eqb-true _ _ e) (sym (ap (λ t. (cond t (interpreted d s.block_size.number s.activity f.bytes) (dropped s.activity)).set) e) ∙ set)
  | inr e ↦ let none : None ≡ Some x = sym (ap (λ t. (cond t (interpreted d s.block_size.number s.activity f.bytes) (dropped s.activity)).set) e) ∙ set in cc
]
