-- Steps told in other words: by what a dictionary answered, and by what the buffer holds.
use Rattle.std.proofs.Common.{◌≡◌, ℕ, ◌+◌, ◌<◌, ◌≤◌, Bool, true, false, cond, List, length, take, drop, Some, None, Err, Option, sym, refl, ap, ◌∙◌, subst, take_all, eq-eqb}
use Rattle.std.proofs.lemmas.Bool.{le-leb, lt-leb}
use Rattle.wire.specs.declared.multiplexor.Multiplexor.{Multiplexor}
use Rattle.wire.specs.declared.abort_code.AbortCode.{AbortCode}
use Rattle.wire.specs.declared.frame.Frame.{Frame}
use Rattle.sdo.specs.declared.toggle.Toggle.{Toggle}
use Rattle.sdo.specs.Answers.{Answer}
use Rattle.sdo.specs.Answers as answer
use Rattle.sdo.specs.Requests.{request_in}
use Rattle.sdo.specs.FrameData.{fits_expedited, expedited_of}
use Rattle.sdo.specs.Segments.{other}
use Rattle.sdo.specs.Transfers as coming
use Rattle.dictionary.specs.Entries.{Entry}
use Rattle.dictionary.specs.Commits.{decided, set_unless}
use Rattle.dictionary.specs.Verdicts.{write_verdict}
use Rattle.node.specs.declared.reception.Reception.{Reception}
use Rattle.node.specs.declared.reaction.Reaction.{Reaction}
use Rattle.node.specs.declared.activity.Activity as declared
use Rattle.node.specs.States.{State, Idle, Upload}
use Rattle.node.specs.Steps.{Step, commit, committed, unless, answered, announced, given, next_segment, understood, interpreted, taken, step}
use Rattle.node.specs.declared.node.Node.{Node}
use Rattle.node.specs.Nodes.{Turns, Goes, Does, Serves, reaction, stepped, dictionary_by, shown, shown_activity}

set_by : (w : Option AbortCode) (m : Multiplexor) (v : List ℕ) (a : Answer) (d : List Entry) → set_unless w m v d ≡ dictionary_by (unless w m (committed m v a)).set d
set_by None m v a d = refl
set_by (Some c) m v a d = refl

module _ {s t : Node} {r : Reaction} where
  -- the same step in other words
  pub turning : {p q : Step} → p ≡ q → Turns p s t r → Turns q s t r
  turning e h = subst (λ (x : Step). Turns x s t r) e h

  module _ {D : Type 0} {meaning : D → List Entry} where
    pub doing : {p q : List Entry → Step} {d e : D} → p (meaning d) ≡ q (meaning d) → Does meaning p s t d e r → Does meaning q s t d e r
    doing {d = d} {e = e} same h =
        record {
          answer = h.answer ∙ ap (λ (x : Step). reaction s.number x) same;
          node = h.node ∙ ap (λ (x : Step). stepped x (shown s)) same;
          dictionary = h.dictionary ∙ ap (λ (x : Step). dictionary_by x.set (meaning d)) same;
        }

    -- a value that is to be set, and what the dictionary made of it
    pub committing : {d e : D} (m : Multiplexor) (v : List ℕ) (a : Answer)
        → Goes (unless (write_verdict (meaning d) m v) m (committed m v a)) s t r
        → meaning e ≡ set_unless (write_verdict (meaning d) m v) m v (meaning d)
        → Does meaning (λ x. commit x m v a) s t d e r
    committing {d = d} m v a h after =
        record { answer = h.answer; node = h.node; dictionary = after ∙ set_by (write_verdict (meaning d) m v) m v a (meaning d) }

    -- a frame that waited
    pub serving : {d e : D} (o : Option Frame) (f : Frame) → o ≡ Some f → Does meaning (λ x. taken x (shown s) f) s t d e r → Serves meaning o s t d e r
    unfolding step
    serving {d} {e} o f is h = subst (λ (x : Option Frame). Serves meaning x s t d e r) (sym is) (record { answer = h.answer; node = h.node; dictionary = h.dictionary })

-- what a decision tells of the verdict
pub refused_by : (w : Option AbortCode) (c : AbortCode) → Err c ≡ decided w → w ≡ Some c
refused_by None c e = cc
refused_by (Some x) c e = cc

-- a value that does not fit the answer is given by segments
by_segments : (b : Bool) (m : Multiplexor) (v : List ℕ) → None ≡ cond b (Some v) None → announced m v ≡ cond b (answered Idle (answer.InitiateUpload m (coming.Expedited v))) (announced m v)
by_segments true m v e = cc
by_segments false m v e = refl

pub segments_given : (m : Multiplexor) (v : List ℕ) → None ≡ expedited_of v → announced m v ≡ given m v
segments_given m v e = by_segments (fits_expedited v) m v e

-- the last segment of a read, and one before it
module _ (m : Multiplexor) (t : Toggle) (v : List ℕ) where
  pub last_given : length v ≤ 7 → answered Idle (answer.UploadSegment t (take 7 v) true) ≡ next_segment m t v
  last_given h = rw (le-leb (length v) 7 h, take_all 7 v h)

  pub more_given : 7 < length v → answered (Upload m (other t) (drop 7 v)) (answer.UploadSegment t (take 7 v) false) ≡ next_segment m t v
  more_given h = rw (lt-leb (length v) 7 h)

-- a frame with the node's identifier
pub addressed : (d : List Entry) (s : State) (f : Frame) → f.identifier.number ≡ 0x600 + s.number.number → interpreted d s.block_size.number s.activity f.bytes ≡ taken d s f
addressed d s f own = rw (eq-eqb f.identifier.number (0x600 + s.number.number) own)

-- bytes that are taken while no block segments come in
pub elsewhere : (d : List Entry) (n : ℕ) (t : declared.Activity) (v bytes : List ℕ) → ((r : Reception) → t ≡ declared.TheVariants.BlockDownload r → ⊥) → understood d n (shown_activity t v) (request_in bytes) ≡ interpreted d n (shown_activity t v) bytes
elsewhere d n declared.TheVariants.Idle v bytes h = refl
elsewhere d n (declared.TheVariants.Download w u) v bytes h = refl
elsewhere d n (declared.TheVariants.Upload r) v bytes h = refl
elsewhere d n (declared.TheVariants.BlockDownload r) v bytes h = absurd (h r refl)
elsewhere d n (declared.TheVariants.BlockEnd b) v bytes h = refl
