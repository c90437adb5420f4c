-- Settling a ticket: an open transfer is given up, and what became of it is told, entered and forgotten.
use Rattle.std.proofs.Common.{◌≡◌, ℕ, ◌+◌, ◌≤◌, Bool, true, false, eqb, ltb, List, [], length, drop, Some, None, Ok, Err, Option, Result, option_map, sym, refl, ap, ◌∙◌, subst, inl, inr, arith, add-zero}
use Rattle.std.proofs.lemmas.Bool.{cond_both, false_from_ne_true}
use Rattle.std.proofs.Math.Seq.{take-append_seam, drop-append_seam}
use Rattle.wire.specs.declared.frame.Frame.{Frame}
use Rattle.sdo.specs.Fits.{Indexed}
use Rattle.wire.specs.declared.multiplexor.Multiplexor.{Multiplexor}
use Rattle.wire.specs.declared.abort_code.AbortCode.{AbortCode}
use Rattle.wire.specs.declared.abort_code.AbortCode.TheVariants.{GeneralError}
use Rattle.dictionary.specs.Entries.{Entry, Lawful, put}
use Rattle.dictionary.specs.Commits.{set_unless}
use Rattle.dictionary.specs.Verdicts.{write_verdict}
use Rattle.dictionary.proofs.Setting.{lawful_kept}
use Rattle.master.specs.declared.phase.Aborted.{Aborted}
use Rattle.master.specs.declared.phase.Finder.TheVariants.{Master}
use Rattle.master.specs.declared.phase.Phase.TheVariants.{Idle}
use Rattle.master.specs.States as master
use Rattle.master.specs.States.{ending_in, cleared_phase, clear}
use Rattle.master.specs.Steps.{may_have_set}
use Rattle.master.specs.Steps as steps
use Rattle.master.specs.Sendings.{silence}
use Rattle.master.specs.Calls.{Parting, give_up_in, give_up}
use Rattle.master.specs.Laws.{is_open}
use Rattle.master.specs.Runs as calls
use Rattle.master.proofs.Outcomes.{by_phase}
use Rattle.master.specs.declared.direction.Direction.{Direction}
use Rattle.master.specs.declared.direction.Direction.TheVariants as way
use Rattle.report.specs.declared.refusal.SettleRefusal.{SettleRefusal}
use Rattle.report.specs.declared.refusal.SettleRefusal.TheVariants.{NotOut, ShortBuffer}
use Rattle.report.specs.declared.report.Report.{Report}
use Rattle.report.specs.declared.report.Outcome.TheVariants.{Unwritten, Undecided}
use Rattle.report.specs.Reports.{outcome_of, report_of, failure_of}
use Rattle.bench.specs.Model.States.{State}
use Rattle.bench.specs.Model.Lines.{Losses, carried}
use Rattle.bench.specs.Model.Calls.{report_out, settled, filled_by, filled, settled_by, settle_step, settled_frames}
use Rattle.bench.specs.Law.Runs.{Settle, Acts, event}
use Rattle.bench.specs.Law.Books.{Note, Book, value_put, note_put, tells_set, set_if, dropping, SetsThere}
use Rattle.bench.specs.Law.Watches.{Watch, counting, not_open}
use Rattle.bench.specs.Law.Law.{Account, GivenBy, TellsVerdict, verdict_on, Judged}
use Rattle.bench.proofs.Law.Exchange.{verdict}
use Rattle.bench.proofs.Law.Outcomes.{SameOrder, Ended, written, read, failed, EndsBy}
use Rattle.bench.proofs.Law.Invariant.{note_of, one_if_noted, Calm, Stage, rests, flies, over, Counted, Inv}
use Rattle.bench.proofs.Law.Parting.{flight_ahead, flight_waited}
use Rattle.bench.proofs.Law.Going.{Goes, goes, Passes, silently, lastly, counted_past, counting_none, can_be_set, parted_line}

abbrev report_for : State → Result (Unit {0}) Aborted → Report
report_for s e = report_of s.master.direction s.master.multiplexor e (length s.master.value)

-- a ticket is refused, or it is the one that is out
data SettledAs (o : Option Report) : Result Report SettleRefusal → Type 0 where
  refused : (e : SettleRefusal) → SettledAs o (Err e)
  accepted : (r : Report) → o ≡ Some r → SettledAs o (Ok r)

settled_as : (own : Bool) (buffer : List ℕ) (o : Option Report) → SettledAs o (settled own buffer o)
settled_as own buffer None = refused NotOut
settled_as false buffer (Some r) = refused NotOut
settled_as true buffer (Some r) = cond_both (ltb (length buffer) 1024) (Err ShortBuffer) (Ok r) (SettledAs (Some r)) (λ _. refused ShortBuffer) (λ _. accepted r refl)

-- What a report tells is what has become of the transfer.

-- with what was said of an undecided write, it tells that the value was set exactly where it was
tells_ahead : {d : List Entry} {M : master.State} {dir : Direction} {ahead : Bool} {e : Result (Unit {0}) Aborted} (m : Multiplexor) (n : ℕ) → Ended d M dir ahead e → tells_set ahead (outcome_of dir m e n) ≡ ahead
tells_ahead m n (written free) = refl
tells_ahead m n (read free there whole) = refl
tells_ahead m n (failed way.Upload ahead f may) = sym (false_from_ne_true ahead (λ is. (let no = (may is).1 in cc)))
tells_ahead m n (failed way.Download ahead f may) =
    cond_both f.may_be_set (Undecided (failure_of m f)) (Unwritten (failure_of m f)) (λ r. tells_set ahead r ≡ ahead)
    (λ _. refl)
    (λ no. sym (false_from_ne_true ahead (λ is. (let yes = (may is).0 in cc))))

verdict_told : (dir : Direction) (m : Multiplexor) (e : Result (Unit {0}) Aborted) (n : ℕ) (v : Option AbortCode) → EndsBy e v → TellsVerdict (outcome_of dir m e n) v
verdict_told way.Upload m (Ok x) n v is = is
verdict_told way.Download m (Ok x) n v is = is
verdict_told way.Upload m (Err f) n v is = is.0
verdict_told way.Download m (Err f) n v is = cond_both f.may_be_set (Undecided (failure_of m f)) (Unwritten (failure_of m f)) (λ r. TellsVerdict r v) (λ yes. (let no = is.1 in absurd cc)) (λ _. is.0)

verdict_noted : (dir : Direction) (d : List Entry) (M : master.State) → verdict dir d M ≡ verdict_on (note_of dir M) d
verdict_noted way.Upload d M = refl
verdict_noted way.Download d M = refl

-- the bytes of a read lie at the front of the buffer
read_given : {M : master.State} {dir : Direction} {ahead : Bool} {e : Result (Unit {0}) Aborted} (b : Book) (buffer : List ℕ) → Ended b.dictionary M dir ahead e → b.note ≡ Some (note_of dir M) → GivenBy (outcome_of dir M.multiplexor e (length M.value)) buffer (filled_by (outcome_of dir M.multiplexor e (length M.value)) M.value buffer) b
read_given b buffer (written free) noted = refl
read_given {M} b buffer (read free there whole) noted =
    record { multiplexor = M.multiplexor; noted = noted; there = there; bytes = take-append_seam M.value (drop (length M.value) buffer) ∙ whole; behind = drop-append_seam M.value (drop (length M.value) buffer); number = ap length whole }
read_given b buffer (failed way.Upload ahead f may) noted = refl
read_given {M} b buffer (failed way.Download ahead f may) noted =
    cond_both f.may_be_set (Undecided (failure_of M.multiplexor f)) (Unwritten (failure_of M.multiplexor f)) (λ r. GivenBy r buffer (filled_by r M.value buffer) b) (λ _. refl) (λ _. refl)

-- The book after a value was put, or none was.

set_lawful : (b : Book) (dir : Direction) (M : master.State) (ahead : Bool) → b.note ≡ Some (note_of dir M) → (ahead ≡ true → (dir ≡ way.Download) × (write_verdict b.dictionary M.multiplexor M.value ≡ None)) → Lawful b.dictionary → Lawful (set_if ahead b).dictionary
set_lawful b dir M false noted allowed lawful = lawful
set_lawful b dir M true noted allowed lawful =
    let may = allowed refl in
    let kept : Lawful (put M.multiplexor M.value b.dictionary) = subst (λ c. Lawful (set_unless c M.multiplexor M.value b.dictionary)) may.1 (lawful_kept b.dictionary M.multiplexor M.value lawful) in
    rw (noted, may.0) kept

value_number : (m : Multiplexor) (v : Option (List ℕ)) (b : Book) → (value_put m v b).number ≤ b.number + 1
value_number m None b = omega arith
value_number m (Some v) b = omega arith

note_number : (o : Option Note) (b : Book) → (note_put o b).number ≤ b.number + one_if_noted o
note_number None b = omega arith
note_number (Some n) b = value_number n.multiplexor n.value b

set_number : (ahead : Bool) (b : Book) → (set_if ahead b).number ≤ b.number + one_if_noted b.note
set_number true b = note_number b.note b
set_number false b = omega arith

-- What giving up makes of the master.

gives_nothing : (M : master.State) → is_open M.phase ≡ false → give_up M ≡ record { next = M; sending = silence }
gives_nothing M = by_phase (λ u. is_open u.phase ≡ false → give_up u ≡ record { next = u; sending = silence }) (λ u e. refl) (λ w u e. cc) (λ k u e. refl) M

passes_give_up : (M : master.State) → Passes M (give_up M).next (give_up M).sending.frames
unfolding steps.parting
passes_give_up M =
    by_phase (λ u. Passes u (give_up u).next (give_up u).sending.frames)
    (λ u. silently refl refl (λ e. e)) (λ w u. lastly refl refl refl) (λ k u. silently refl refl (λ e. e)) M

passes_clear : (M : master.State) → Passes M (clear M) []
passes_clear M = by_phase (λ u. Passes u (clear u) []) (λ u. silently refl refl (λ e. e)) (λ w u. silently refl refl (λ e. e)) (λ k u. silently refl refl (λ e. refl)) M

-- a bench after it was settled, by what comes of giving up
abbrev settled_as_parted : Parting → List Bool → State → State
settled_as_parted p ls s = record s { line = carried p.sending ls s.line; master = clear p.next }

-- what is known of a transfer whose ticket is out when it is settled
record Parted (d : List Entry) (s : State) (w : Watch) (note : Option Note) (ahead : Bool) (ls : List Bool) (p : Parting) : Type 0 where
  ending : Result (Unit {0}) Aborted
  is : ending_in p.next.phase ≡ Some ending
  noted : note ≡ Some (note_of s.master.direction s.master)
  before : w.before ≡ d
  ended : Ended d s.master s.master.direction ahead ending
  judged : w.lost_before_over ≡ Some false → EndsBy ending (verdict s.master.direction d s.master)
  calm : Calm (settled_as_parted p ls s)
  cleared : (clear p.next).phase ≡ Idle
  order : SameOrder s.master.direction s.master (clear p.next)

parted : {d : List Entry} {s : State} {w : Watch} {note : Option Note} {ahead : Bool} (ls : List Bool) (r : Report) → report_out s ≡ Some r → Stage d s w note ahead → Parted d s w note ahead ls (give_up s.master)
parted {s} ls r out (rests idle calm shut) =
    let none : report_out s ≡ None = ap (λ (p : Parting). option_map (report_for s) (ending_in p.next.phase)) (gives_nothing s.master (ap is_open idle)) ∙ ap (λ x. option_map (report_for s) (ending_in x)) idle in
    cc
parted {d} {s} {w} ls r out (flies u ahead phase ticks busy same_ticks before none flight) =
    let note = Some (note_of s.master.direction s.master) in
    subst (Parted d s w note ahead ls) (sym (ap (give_up_in s.master) phase)) (record {
      ending = Err (record { code = GeneralError; finder = Master; may_be_set = may_have_set u s.master.value; segment = s.master.highest });
      is = refl;
      noted = refl;
      before = before;
      ended = failed s.master.direction ahead _ (flight_ahead flight);
      judged = λ sure. absurd cc;
      calm = record { waiting = parted_line GeneralError s.master ls s.line; idle_in_time = elim (flight_waited flight) [ inl idle ↦ inl idle | inr few ↦ inr (omega arith, omega arith) ] };
      cleared = refl;
      order = record { node = refl; begun = refl; multiplexor = refl; direction = refl; value = λ e. refl };
    })
parted {d} {s} {w} ls r out (over e ahead phase calm shut before ended judged) =
    let note = Some (note_of s.master.direction s.master) in
    subst (Parted d s w note ahead ls) (sym (gives_nothing s.master (ap is_open phase))) (record {
      ending = e;
      is = ap ending_in phase;
      noted = refl;
      before = before;
      ended = ended;
      judged = judged;
      calm = record { waiting = calm.waiting; idle_in_time = calm.idle_in_time };
      cleared = ap cleared_phase phase;
      order = record { node = refl; begun = refl; multiplexor = refl; direction = refl; value = λ e. refl };
    })

-- An accepted ticket, by what was known of its transfer.

module _ (x : Losses) (a : Account) (s : State) (i : Inv a s) (p : Parted a.book.dictionary s a.watch a.book.note i.ahead x.of_master (give_up s.master)) where
  abbrev parted_bench : State
  parted_bench = settled_as_parted (give_up s.master) x.of_master s

  abbrev sent_frames : List Frame
  sent_frames = (give_up s.master).sending.frames

  abbrev told_report : Report
  told_report = report_for s p.ending

  frames_settled : Counted (a.watch.frames + length sent_frames) s.master.direction (clear (give_up s.master).next)
  frames_settled =
      let given_up = counted_past a.watch.frames s.master.direction s.master calls.GiveUp refl (passes_give_up s.master) i.base.frames in
      subst (λ n. Counted n s.master.direction (clear (give_up s.master).next)) (add-zero _)
      (counted_past (a.watch.frames + length sent_frames) s.master.direction (give_up s.master).next calls.Clear refl (passes_clear (give_up s.master).next) given_up)

  inv_settled : Inv (record { book = dropping (set_if i.ahead a.book); watch = counting sent_frames (not_open a.watch) }) parted_bench
  inv_settled = record {
    ahead = false;
    base = record {
      lawful = set_lawful a.book s.master.direction s.master i.ahead p.noted i.base.allowed i.base.lawful;
      indexed = subst Indexed (sym p.order.multiplexor) i.base.indexed;
      same = i.base.same ∙ sym p.order.node;
      allowed = λ e. cc;
      dictionary = i.base.dictionary;
      count = i.base.count;
      number = omega (arith, set_number i.ahead a.book, i.base.number, p.order.begun);
      begun = omega (arith, i.base.begun, p.order.begun);
      frames = subst (λ dir. Counted (a.watch.frames + length sent_frames) dir (clear (give_up s.master).next)) (sym p.order.direction) frames_settled;
    };
    stage = rests p.cleared p.calm refl;
  }

  judged_right : a.watch.lost_before_over ≡ Some false → Judged told_report.outcome a.book a.watch
  judged_right sure = record {
    note = note_of s.master.direction s.master;
    noted = p.noted;
    verdict =
        subst (TellsVerdict told_report.outcome) (verdict_noted s.master.direction a.book.dictionary s.master ∙ ap (verdict_on (note_of s.master.direction s.master)) (sym p.before))
        (verdict_told s.master.direction s.master.multiplexor p.ending (length s.master.value) (verdict s.master.direction a.book.dictionary s.master) (p.judged sure));
  }

  accepted_goes : (k : ℕ) (buffer : List ℕ) → Goes a (event (Settle k buffer (Ok told_report) (filled (Ok told_report) s.master.value buffer)) sent_frames x s) parted_bench
  accepted_goes k buffer =
      let tells = tells_ahead s.master.multiplexor (length s.master.value) p.ended in
      goes a (event (Settle k buffer (Ok told_report) (filled (Ok told_report) s.master.value buffer)) sent_frames x s) parted_bench i.ahead
      (subst (λ set. SetsThere set a.book) (sym tells) (can_be_set a s i))
      (read_given a.book buffer p.ended p.noted)
      judged_right
      tt
      (subst (λ set. Inv (record { book = dropping (set_if set a.book); watch = counting sent_frames (not_open a.watch) }) parted_bench) (sym tells) inv_settled)

-- a refused ticket changes nothing
refused_goes : (x : Losses) (a : Account) (s : State) (k : ℕ) (buffer : List ℕ) (e : SettleRefusal) → Inv a s → Goes a (event (Settle k buffer (Err e) buffer) [] x s) s
refused_goes x a s k buffer e i =
    goes a (event (Settle k buffer (Err e) buffer) [] x s) s false tt refl tt tt
    (subst (λ w. Inv (record { book = a.book; watch = w }) s) (sym (counting_none a.watch)) i)

settle_kept : (x : Losses) (a : Account) (s : State) (k : ℕ) (buffer : List ℕ) {r : Result Report SettleRefusal} → Inv a s → SettledAs (report_out s) r → Goes a (event (Settle k buffer r (filled r s.master.value buffer)) (settled_frames r (give_up s.master).sending.frames) x s) (settled_by r x.of_master s)
settle_kept x a s k buffer i (refused e) = refused_goes x a s k buffer e i
settle_kept x a s k buffer i (accepted r out) =
    let p = parted x.of_master r out i.stage in
    let tells : r ≡ report_for s p.ending = (let said = ap (option_map (report_for s)) p.is in cc) in
    rw tells (accepted_goes x a s i p k buffer)

pub settle_goes : (a : Account) (x : Losses) (fs : List Frame) (k : ℕ) (buffer : List ℕ) (r : Result Report SettleRefusal) (after : List ℕ) (s t : State) → Inv a s → Acts (Settle k buffer r after) fs x s t → Goes a (event (Settle k buffer r after) fs x s) t
unfolding settle_step
settle_goes a x fs k buffer r after s t i c = rw (c.0, c.1, c.2, c.3) (settle_kept x a s k buffer i (settled_as (eqb k s.master.begun) buffer (report_out s)))
