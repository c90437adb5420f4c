-- Only a commit changes the dictionary.
use Rattle.std.proofs.Common.{◌≡◌, ℕ, Bool, true, false, cond, List, Some, None, Option, sym, refl, ap, ◌∙◌}
use Rattle.wire.specs.declared.multiplexor.Multiplexor.{Multiplexor}
use Rattle.wire.specs.declared.abort_code.AbortCode.{AbortCode}
use Rattle.wire.specs.declared.frame.Frame.{Frame}
use Rattle.sdo.specs.Answers as answer
use Rattle.dictionary.specs.Entries.{Entry}
use Rattle.dictionary.specs.Verdicts.{write_verdict}
use Rattle.node.specs.declared.served.Served.TheVariants.{Committed}
use Rattle.node.specs.States.{State, Idle}
use Rattle.node.specs.Steps.{Step, Setting, step}
use Rattle.node.specs.Nodes.{dictionary_by, commits_by, timed_out, waited, tick}
use Rattle.node.specs.Laws.{Commits, CommitsTold, Leaves, OthersLeave, TicksLeave, AbortsLeaveIdle}
use Rattle.node.proofs.Sorting.{Kind, says_abort, commits, refuses, stops, answers, drops, keeps, waits, step-kind}

-- what a step that tells of a commit does
record Did (d : List Entry) (p : Step) : Type 0 where
  at : Multiplexor
  value : List ℕ
  free : write_verdict d at value ≡ None
  set : p.set ≡ Some (record { multiplexor = at; value = value })
  over : p.next ≡ Idle

did : (d : List Entry) (p : Step) → Kind d p → p.served ≡ Committed → Did d p
did d p (commits m v a e) h = record { at = m; value = v; free = e; set = refl; over = refl }
did d p (refuses m c) h = cc
did d p stops h = cc
did d p (answers t a q) h = cc
did d p (drops t) h = cc
did d p (keeps t) h = cc
did d p (waits t) h = cc

left : (d : List Entry) (p : Step) → Kind d p → (p.served ≡ Committed → ⊥) → p.set ≡ None
left d p (commits m v a e) h = absurd (h refl)
left d p (refuses m c) h = refl
left d p stops h = refl
left d p (answers t a q) h = refl
left d p (drops t) h = refl
left d p (keeps t) h = refl
left d p (waits t) h = refl

-- no frame, no commit
told_frame : (d : List Entry) (s : State) (f : Option Frame) → (step d s f).served ≡ Committed → Did d (step d s f) → Commits d s f
unfolding step
told_frame d s None e h = cc
told_frame d s (Some f) e h =
    record {
      multiplexor = h.at;
      value = h.value;
      undisputed = h.free;
      set = ap (λ (o : Option Setting). dictionary_by o d) h.set;
      counted = ap (λ (o : Option Setting). commits_by o s.commits) h.set;
      over = h.over;
    }

pub commits_told : CommitsTold
commits_told d s f h = told_frame d s f h (did d (step d s f) (step-kind d s f) h)

leaves : (d : List Entry) (s : State) (f : Option Frame) → (step d s f).set ≡ None → Leaves d s f
leaves d s None h = record { dictionary = ap (λ (o : Option Setting). dictionary_by o d) h; count = refl }
leaves d s (Some f) h = record { dictionary = ap (λ (o : Option Setting). dictionary_by o d) h; count = ap (λ (o : Option Setting). commits_by o s.commits) h }

pub others_leave : OthersLeave
others_leave d s f h = leaves d s f (left d (step d s f) (step-kind d s f) h)

counted : (x y : Bool) (s : State) → (cond x (record { next = s; reply = None }) (cond y (timed_out s) (waited s))).next.commits ≡ s.commits
counted true y s = refl
counted false true s = refl
counted false false s = refl

pub ticks_leave : TicksLeave
unfolding tick
ticks_leave s = counted _ _ s

-- an abort that is sent is a refusal
idle_by : (d : List Entry) (p : Step) → Kind d p → (m : Multiplexor) (c : AbortCode) → p.reply ≡ Some (answer.Abort m c) → p.next ≡ Idle
idle_by d p (commits n v a e) m c h = refl
idle_by d p (refuses n x) m c h = refl
idle_by d p stops m c h = refl
idle_by d p (answers t a q) m c h =
    let same : a ≡ answer.Abort m c = cc in
    let no : true ≡ false = ap says_abort (sym same) ∙ q in
    cc
idle_by d p (drops t) m c h = cc
idle_by d p (keeps t) m c h = cc
idle_by d p (waits t) m c h = cc

pub aborts_leave_idle : AbortsLeaveIdle
unfolding step
aborts_leave_idle d s None m c h = cc
aborts_leave_idle d s (Some f) m c h = idle_by d (step d s (Some f)) (step-kind d s (Some f)) m c h
