-- What the law says of one transfer, computed from its account.
use Rattle.std.proofs.Common.{◌≡◌, ℕ, ◌≤◌, Bool, true, false, ◌⊎◌, List, [], ◌∷◌, length, take, drop, map, None, Some, Ok, Option, refl, sym, ap, ◌∙◌, subst, inl, inr}
use Rattle.wire.specs.declared.frame.Frame.{Frame}
use Rattle.wire.specs.declared.multiplexor.Multiplexor.{Multiplexor}
use Rattle.dictionary.specs.Entries.{Entry}
use Rattle.dictionary.specs.Laws.{There}
use Rattle.dictionary.specs.Questions.{value_at}
use Rattle.master.specs.declared.heard.Heard.TheVariants.{Over}
use Rattle.master.specs.declared.method.Method.{Method}
use Rattle.master.specs.Calls.{Order, Read, Write}
use Rattle.report.specs.declared.report.Outcome.{Outcome}
use Rattle.report.specs.declared.report.Outcome.TheVariants as report
use Rattle.report.specs.declared.report.Outcome.TheVariants.{Written, Unwritten, Undecided, Unread}
use Rattle.bench.specs.Model.Lines.{Losses}
use Rattle.bench.specs.Law.Runs.{Begin, Hear, Settle, Event}
use Rattle.bench.specs.Law.Books.{Note, Book, new_book, value_ordered, noting, tells_set, set_if, dropping, CanBeSet, SetsThere}
use Rattle.bench.specs.Law.Watches.{Watch, awake, after_hear}
use Rattle.bench.specs.Law.Law.{Witnessed, first, account, Gives, TellsVerdict, verdict_of, verdict_on, Judged, Kept, AllKept, Law}
use Rattle.bench.specs.Law.Sentences.{transfer, Untouched, SetOnce, LawSays}

abbrev telling : Event → Bool → Witnessed
telling e x = record { event = e; set = x }

witnessed_as : (t : Witnessed) (e : Event) → t.event ≡ e → t ≡ telling e t.set
witnessed_as t e is = ap (λ a. telling a t.set) is

-- what is said of three events
three : (a b c : Event) (said : List Witnessed) → map (λ (t : Witnessed). t.event) said ≡ a ∷ b ∷ c ∷ [] → (x : Bool) × (y : Bool) × (z : Bool) × (said ≡ telling a x ∷ telling b y ∷ telling c z ∷ [])
three a b c [] is = absurd (cc)
three a b c (t ∷ []) is = absurd (cc)
three a b c (t ∷ u ∷ []) is = absurd (cc)
three a b c (t ∷ u ∷ v ∷ w ∷ ts) is = absurd (cc)
three a b c (t ∷ u ∷ v ∷ []) is =
    let one : t ≡ telling a t.set = witnessed_as t a cc in
    let two : u ≡ telling b u.set = witnessed_as u b cc in
    let last : v ≡ telling c v.set = witnessed_as v c cc in
    (t.set, u.set, v.set, cc)

-- a book without a note takes no value
without_note : (ahead : Bool) (b : Book) → b.note ≡ None → set_if ahead b ≡ b
without_note true b none = rw none refl
without_note false b none = refl

-- the book and the watch when the transfer is settled
abbrev noted : List Entry → Multiplexor → Order → Book
noted d m o = noting (record { multiplexor = m; value = value_ordered o }) (new_book d)

abbrev over : List Entry → List Frame → Bool → Watch
over d fs lost = after_hear Over lost [] (awake d fs)

-- what is known of a transfer: the choice for its report, what was kept when it was settled, and the book at the end
record Known (d now : List Entry) (commits : ℕ) (m : Multiplexor) (o : Order) (fs : List Frame) (ls : Losses × Losses × Losses) (lost : Bool) (r : Outcome) (before after : List ℕ) : Type 0 where
  set : Bool
  kept : Kept (telling (record { act = Settle 1 before (Ok (record { outcome = r })) after; lost = lost; sent = []; losses = ls.2 }) set) (record { book = noted d m o; watch = over d fs lost })
  dictionary : now ≡ (dropping (set_if (tells_set set r) (noted d m o))).dictionary
  count : commits ≡ (dropping (set_if (tells_set set r) (noted d m o))).number
  few : length fs ≤ 1300

known : {d now : List Entry} {commits : ℕ} {m : Multiplexor} {o : Order} {fs : List Frame} {ls : Losses × Losses × Losses} {lost : Bool} {r : Outcome} {before after : List ℕ} → Law d (transfer m o fs ls lost r before after) now commits → Known d now commits m o fs ls lost r before after
known {d} {now} {commits} {m} {o} {fs} {ls} {lost} {r} {before} {after} l =
    let s = three _ _ _ l.witnessed l.events in
    let begun : Event = record { act = Begin m o (Ok 1); lost = false; sent = fs; losses = ls.0 } in
    let heard_over : Event = record { act = Hear Over; lost = lost; sent = []; losses = ls.1 } in
    let settled : Event = record { act = Settle 1 before (Ok (record { outcome = r })) after; lost = lost; sent = []; losses = ls.2 } in
    let said = telling begun s.0 ∷ telling heard_over s.1 ∷ telling settled s.2 ∷ [] in
    let kept : AllKept said (first d) = subst (λ ts. AllKept ts (first d)) s.3 l.kept in
    let rest = kept.1 in
    let last = rest.1 in
    let book = dropping (set_if (tells_set s.2 r) (noted d m o)) in
    let ends : (set_if l.ahead (account l.witnessed (first d)).book) ≡ book = ap (λ ts. set_if l.ahead (account ts (first d)).book) s.3 ∙ without_note l.ahead book refl in
    record {
      set = s.2;
      kept = last.0;
      dictionary = l.dictionary ∙ ap (λ (b : Book). b.dictionary) ends;
      count = l.count ∙ ap (λ (b : Book). b.number) ends;
      few = kept.0.few_frames;
    }

-- the note is the one that was made at the begin

abbrev note_or : Note → Option Note → Note
note_or n None = n
note_or n (Some x) = x

own_note : {a b : Note} → Some a ≡ Some b → a ≡ b
own_note {a} {b} is = ap (note_or a) is

set_there : (d : List Entry) (m : Multiplexor) (o : Order) → CanBeSet (noted d m o) → There d m
set_there d m o c = subst (There d) (sym (ap (λ (n : Note). n.multiplexor) (own_note c.noted))) c.there

-- a read puts no value
no_value : (d : List Entry) (m : Multiplexor) → CanBeSet (noted d m Read) → ⊥
no_value d m c = (let value = ap (λ (n : Note). n.value) (own_note c.noted) in absurd cc)

given : (d : List Entry) (m : Multiplexor) (o : Order) (n : ℕ) (before after : List ℕ) → Gives n before after (noted d m o) → There d m × (take n after ≡ value_at d m) × (n ≡ length (value_at d m)) × (drop n after ≡ drop n before)
given d m o n before after g =
    let same = sym (ap (λ (x : Note). x.multiplexor) (own_note g.noted)) in
    (subst (There d) same g.there, subst (λ x. take n after ≡ value_at d x) same g.bytes, subst (λ x. n ≡ length (value_at d x)) same g.number, g.behind)

-- a write gives no bytes
no_bytes : (d : List Entry) (m : Multiplexor) (how : Method) (v : List ℕ) (n : ℕ) (before after : List ℕ) → Gives n before after (noted d m (Write how v)) → ⊥
no_bytes d m how v n before after g = (let value = ap (λ (n : Note). n.value) (own_note g.noted) in absurd cc)

judged : (d : List Entry) (m : Multiplexor) (o : Order) (fs : List Frame) (r : Outcome) → Judged r (noted d m o) (over d fs false) → TellsVerdict r (verdict_of (value_ordered o) m d)
judged d m o fs r j = subst (TellsVerdict r) (ap (λ (n : Note). verdict_on n d) (sym (own_note j.noted))) j.verdict

-- an undecided write, by the choice
undecided : (d now : List Entry) (commits : ℕ) (m : Multiplexor) (how : Method) (v : List ℕ) (x : Bool) → SetsThere x (noted d m (Write how v)) → now ≡ (dropping (set_if x (noted d m (Write how v)))).dictionary → commits ≡ (dropping (set_if x (noted d m (Write how v)))).number → Untouched d now commits ⊎ SetOnce m v d now commits
undecided d now commits m how v true sets dictionary count = inr (set_there d m (Write how v) (sets refl), dictionary, count)
undecided d now commits m how v false sets dictionary count = inl (dictionary, count)

pub law_says : LawSays
law_says d now commits m fs ls lost before after = record {
  written = λ how v l. (let k = known l in (set_there d m (Write how v) (k.kept.sets refl), k.dictionary, k.count));
  unwritten = λ how v f l. (let k = known l in (k.dictionary, k.count));
  undecided = λ how v f l. (let k = known l in undecided d now commits m how v k.set k.kept.sets k.dictionary k.count);
  read = λ n l. (let k = known l in let g = given d m Read n before after k.kept.reads in ((k.dictionary, k.count), g.0, g.1, g.2, g.3));
  unread = λ f l. (let k = known l in ((k.dictionary, k.count), k.kept.reads));
  write_refused = λ how v f l. judged d m (Write how v) fs (Unwritten f) ((known l).kept.verdict refl);
  write_accepted = λ how v l. judged d m (Write how v) fs Written ((known l).kept.verdict refl);
  read_refused = λ f l. judged d m Read fs (Unread f) ((known l).kept.verdict refl);
  read_accepted = λ n l. judged d m Read fs (report.Read n) ((known l).kept.verdict refl);
  no_undecided = λ how v f l. judged d m (Write how v) fs (Undecided f) ((known l).kept.verdict refl);
  no_read_written = λ l. no_value d m ((known l).kept.sets refl);
  no_write_read = λ how v n l. no_bytes d m how v n before after (known l).kept.reads;
  few_frames = λ o r l. (known l).few;
}
