-- What each call owes: it keeps the law, and afterwards the bench is again as it has to be between two calls.
use Rattle.std.proofs.Common.{◌≡◌, ℕ, ◌+◌, ◌≤◌, Bool, true, false, List, [], ◌∷◌, ◌++◌, length, Some, None, Option, sym, refl, ap, ap₂, ◌∙◌, subst, inl, inr, arith, add-zero, append_assoc, length-append}
use Rattle.wire.specs.declared.frame.Frame.{Frame}
use Rattle.wire.specs.declared.abort_code.AbortCode.{AbortCode}
use Rattle.sdo.specs.Fits.{Indexed}
use Rattle.line.specs.Meanings.{Meaning}
use Rattle.dictionary.specs.Entries.{Entry}
use Rattle.dictionary.specs.Verdicts.{is_there, read_verdict, write_verdict}
use Rattle.dictionary.proofs.Deciding.{write_decided}
use Rattle.master.specs.Limits.{most_transfers}
use Rattle.master.specs.States as master
use Rattle.master.specs.Steps.{parting}
use Rattle.master.specs.Laws.{is_open}
use Rattle.master.specs.Runs as calls
use Rattle.master.proofs.Bounding.{repeats_are_bounded}
use Rattle.master.specs.declared.direction.Direction.{Direction}
use Rattle.master.specs.declared.direction.Direction.TheVariants as way
use Rattle.bench.specs.Model.States.{State}
use Rattle.bench.specs.Model.Lines.{carried, replied}
use Rattle.bench.specs.Law.Runs.{Event}
use Rattle.bench.specs.Law.Books.{Note, SetsThere}
use Rattle.bench.specs.Law.Watches.{Watch, counting}
use Rattle.bench.specs.Law.Law.{Account, accounted, Sets, Reads, Verdict, Time, Kept}
use Rattle.bench.proofs.Law.Exchange.{verdict}
use Rattle.bench.proofs.Law.Outcomes.{SameOrder}
use Rattle.bench.proofs.Law.Invariant.{note_of, one_if_noted, OnlyAbort, Stage, rests, flies, over, Counted, few, of_read, of_write, Allowed, Inv}

pub record Goes (a : Account) (e : Event) (t : State) : Type 0 where
  pub set : Bool
  pub kept : Kept (record { event = e; set = set }) a
  pub inv : Inv (accounted (record { event = e; set = set }) a) t

-- what was counted is never more than a transfer may have
pub counted_bound : (n : ℕ) (dir : Direction) (M : master.State) → Counted n dir M → n ≤ 1300
counted_bound n dir M (few shut small) = omega arith
counted_bound n dir M (of_read up small low) = omega arith
counted_bound n dir M (of_write K m how v x fs k said run is) = omega (arith, repeats_are_bounded K M m how v x fs k said run)

-- so the bound on the frames needs no proof of its own
pub goes : (a : Account) (e : Event) (t : State) (set : Bool) → Sets set e.act a.book → Reads e.act a.book → Verdict e.act a.book a.watch → Time e.act a.watch → Inv (accounted (record { event = e; set = set }) a) t → Goes a e t
goes a e t set sets reads verdict time inv =
    let bound = counted_bound _ _ _ inv.base.frames in
    record { set = set; kept = record { sets = sets; reads = reads; verdict = verdict; time = time; few_frames = bound }; inv = inv }

-- a call of the master goes on with the count: that of a write has one call more, and what it makes of the others is told
pub counted_on : (n : ℕ) (dir : Direction) (M : master.State) (c : calls.Move) → calls.begins M c ≡ false → (is_open M.phase ≡ false → n ≤ 149 → Counted (n + length (calls.sent_in M c)) dir (calls.after M c)) → (dir ≡ way.Upload → n ≤ M.highest + 1 → M.highest ≤ 147 → Counted (n + length (calls.sent_in M c)) dir (calls.after M c)) → Counted n dir M → Counted (n + length (calls.sent_in M c)) dir (calls.after M c)
counted_on n dir M c no_begin calm reading (few shut small) = calm shut small
counted_on n dir M c no_begin calm reading (of_read up small low) = reading up small low
counted_on n dir M c no_begin calm reading (of_write K m how v x fs k said run is) =
    let gs = calls.sent_in M c in
    of_write K m how v x (fs ++ gs) (k + calls.ticks_in c) said (calls.more fs k M c run no_begin) (ap (λ j. j + length gs) is ∙ sym (length-append (x.sending.frames ++ fs) gs) ∙ ap length (append_assoc x.sending.frames fs gs))

-- a call that asks for nothing more: the master sends nothing, or it sends one frame and is done with its transfer
pub data Passes (M K : master.State) (fs : List Frame) : Type 0 where
  silently : fs ≡ [] → K.highest ≡ M.highest → (is_open M.phase ≡ false → is_open K.phase ≡ false) → Passes M K fs
  lastly : length fs ≡ 1 → is_open M.phase ≡ true → is_open K.phase ≡ false → Passes M K fs

pub counted_past : (n : ℕ) (dir : Direction) (M : master.State) (c : calls.Move) → calls.begins M c ≡ false → Passes M (calls.after M c) (calls.sent_in M c) → Counted n dir M → Counted (n + length (calls.sent_in M c)) dir (calls.after M c)
counted_past n dir M c no_begin (silently none high shut) =
    let size = ap length none in
    counted_on n dir M c no_begin (λ calm small. few (shut calm) (omega arith)) (λ up small low. of_read up (omega arith) (omega arith))
counted_past n dir M c no_begin (lastly one busy shut) =
    counted_on n dir M c no_begin (λ calm small. cc) (λ up small low. few shut (omega arith))

-- where no frame is sent, only the calls count
pub counting_none : (w : Watch) → counting [] w ≡ w
counting_none w = ap (λ n. record w { frames = n }) (add-zero w.frames)

-- the note and the verdict go by the order alone
pub same_note : (dir : Direction) (M K : master.State) → SameOrder dir M K → note_of dir K ≡ note_of dir M
same_note way.Upload M K same = ap (λ m. record { multiplexor = m; value = None }) same.multiplexor
same_note way.Download M K same = ap₂ (λ m v. record { multiplexor = m; value = Some v }) same.multiplexor (same.value refl)

pub same_verdict : (d : List Entry) (dir : Direction) (M K : master.State) → SameOrder dir M K → verdict dir d K ≡ verdict dir d M
same_verdict d way.Upload M K same = ap (read_verdict d) same.multiplexor
same_verdict d way.Download M K same = ap₂ (write_verdict d) same.multiplexor (same.value refl)

pub same_own_note : (M K : master.State) → SameOrder M.direction M K → note_of K.direction K ≡ note_of M.direction M
same_own_note M K same = ap (λ dir. note_of dir K) same.direction ∙ same_note M.direction M K same

pub same_own_verdict : (d : List Entry) (M K : master.State) → SameOrder M.direction M K → verdict K.direction d K ≡ verdict M.direction d M
same_own_verdict d M K same = ap (λ dir. verdict dir d K) same.direction ∙ same_verdict d M.direction M K same

-- so a stage may be told by the master before a call that leaves the order
pub renoted : {d : List Entry} {t : State} {w : Watch} {ahead : Bool} (M : master.State) → SameOrder M.direction M t.master → Stage d t w (Some (note_of t.master.direction t.master)) ahead → Stage d t w (Some (note_of M.direction M)) ahead
renoted {d} {t} {w} {ahead} M same stage = subst (λ note. Stage d t w (Some note) ahead) (same_own_note M t.master same) stage

-- what a call leaves that sets nothing: the dictionary, the node's number and its count, and all that the master's order is
pub record Stays (s t : State) : Type 0 where
  pub dictionary : t.dictionary ≡ s.dictionary
  pub number : t.node.number ≡ s.node.number
  pub commits : t.node.commits ≡ s.node.commits
  pub order : SameOrder s.master.direction s.master t.master

still_allowed : (d : List Entry) (s t : State) (ahead : Bool) → Stays s t → Allowed d s ahead → Allowed d t ahead
still_allowed d s t ahead same allowed is =
    let before = allowed is in
    (same.order.direction ∙ before.0, ap₂ (λ m v. write_verdict d m v) same.order.multiplexor (same.order.value before.0) ∙ before.1)

-- then only the stage and the count have to be shown anew
pub inv_on : (a : Account) (w : Watch) (s t : State) (i : Inv a s) → Stays s t → Stage a.book.dictionary t w a.book.note i.ahead → Counted w.frames s.master.direction t.master → Inv (record { book = a.book; watch = w }) t
inv_on a w s t i same stage frames =
    let b = i.base in
    record {
      ahead = i.ahead;
      base = record {
        lawful = b.lawful;
        indexed = subst Indexed (sym same.order.multiplexor) b.indexed;
        same = same.number ∙ b.same ∙ sym same.order.node;
        allowed = still_allowed a.book.dictionary s t i.ahead same b.allowed;
        dictionary = same.dictionary ∙ b.dictionary;
        count = same.commits ∙ b.count;
        number = subst (λ n. a.book.number + one_if_noted a.book.note ≤ n) (sym same.order.begun) b.number;
        begun = subst (λ n. n ≤ most_transfers) (sym same.order.begun) b.begun;
        frames = subst (λ dir. Counted w.frames dir t.master) (sym same.order.direction) frames;
      };
      stage = stage;
    }

-- what a node sends changes nothing of what waits for it
pub replied_to_node : (o : Option Frame) (lost : Bool) (m : Meaning) → (replied o lost m).to_node ≡ m.to_node
replied_to_node None lost m = refl
replied_to_node (Some f) true m = refl
replied_to_node (Some f) false m = refl

-- where the master ends its transfer, at most its abort waits for the node
pub parted_line : (c : AbortCode) (M : master.State) (ls : List Bool) (m : Meaning) → OnlyAbort M (carried (parting c M) ls m).to_node
unfolding parting
parted_line c M [] m = inr (M.multiplexor, c, refl)
parted_line c M (true ∷ ls) m = inl refl
parted_line c M (false ∷ ls) m = inr (M.multiplexor, c, refl)

-- the note of a write whose value was set is that of its order
noted_as : {d : List Entry} {s : State} {w : Watch} {note : Option Note} {ahead : Bool} → Stage d s w note ahead → ahead ≡ true → note ≡ Some (note_of s.master.direction s.master)
noted_as (rests idle calm shut) e = cc
noted_as (flies u ahead phase ticks is_open same_ticks before told flight) e = refl
noted_as (over e ahead phase calm shut before ended judged) is = refl

-- and its entry is there
pub can_be_set : (a : Account) (s : State) (i : Inv a s) → SetsThere i.ahead a.book
can_be_set a s i is =
    let allowed = i.base.allowed is in
    let can = (write_decided a.book.dictionary s.master.multiplexor s.master.value).0 allowed.1 in
    record {
      multiplexor = s.master.multiplexor;
      value = s.master.value;
      noted = noted_as i.stage is ∙ ap (λ dir. Some (note_of dir s.master)) allowed.0;
      there = ap is_there can.there;
    }

-- a call that changes neither the book nor the watch
pub still : (a : Account) (e : Event) (t : State) → accounted (record { event = e; set = false }) a ≡ a → Sets false e.act a.book → Reads e.act a.book → Verdict e.act a.book a.watch → Time e.act a.watch → Inv a t → Goes a e t
still a e t same sets reads verdict time inv = goes a e t false sets reads verdict time (subst (λ b. Inv b t) (sym same) inv)
