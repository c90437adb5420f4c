-- The law over all runs, from what each call keeps.
use Rattle.std.proofs.Common.{◌≡◌, ℕ, Bool, false, Result, List, [], ◌∷◌, ◌++◌, map, refl, sym, ap, ◌∙◌, subst, inl, arith}
use Rattle.std.proofs.lemmas.List.{map-append}
use Rattle.wire.specs.declared.frame.Frame.{Frame}
use Rattle.wire.specs.declared.multiplexor.Multiplexor.{Multiplexor}
use Rattle.wire.specs.declared.node_number.NodeNumber.{NodeNumber}
use Rattle.sdo.specs.Fits.{Indexed}
use Rattle.sdo.specs.Blocks.{BlockSize}
use Rattle.dictionary.specs.Entries.{Entry, Lawful}
use Rattle.master.specs.declared.heard.Heard.{Heard}
use Rattle.master.specs.declared.refusal.BeginRefusal.{BeginRefusal}
use Rattle.master.specs.Calls.{Order}
use Rattle.node.specs.declared.served.Served.{Served}
use Rattle.report.specs.declared.refusal.SettleRefusal.{SettleRefusal}
use Rattle.report.specs.declared.report.Report.{Report}
use Rattle.bench.specs.declared.response.Ticked.{Ticked}
use Rattle.bench.specs.Model.Lines.{Losses}
use Rattle.bench.specs.Model.States.{State, fresh}
use Rattle.bench.specs.Model.Calls.{begin_answer, begin_step, begin_frames, serve_answer, serve_step, hear_answer, hear_step, hear_frames, tick_answer, tick_step, tick_frames, settle_answer, settle_buffer, settle_step, settle_frames}
use Rattle.bench.specs.Law.Runs.{Act, Begin, Serve, Hear, Tick, Settle, Event, event, Acts, Happens, Run, none, more}
use Rattle.bench.specs.Law.Law.{Witnessed, Account, accounted, first, account, Kept, AllKept, LawStands, KeepsLaw, LawThroughout}
use Rattle.bench.proofs.Law.Invariant.{Inv, rests, few}
use Rattle.bench.proofs.Law.Going.{Goes, can_be_set}
use Rattle.bench.proofs.Law.Beginning.{begin_goes}
use Rattle.bench.proofs.Law.Serves.{serve_goes}
use Rattle.bench.proofs.Law.Hears.{hear_goes}
use Rattle.bench.proofs.Law.Ticking.{tick_goes}
use Rattle.bench.proofs.Law.Settling.{settle_goes}

account_more : (es : List Witnessed) (e : Witnessed) (a : Account) → account (es ++ e ∷ []) a ≡ accounted e (account es a)
account_more [] e a = refl
account_more (x ∷ es) e a = account_more es e (accounted x a)

kept_more : (es : List Witnessed) (e : Witnessed) (a : Account) → AllKept es a → Kept e (account es a) → AllKept (es ++ e ∷ []) a
kept_more [] e a all one = (one, tt)
kept_more (x ∷ es) e a all one = (all.0, kept_more es e (accounted x a) all.1 one)

-- what is known of a run
record Known (d : List Entry) (es : List Event) (s : State) : Type 0 where
  witnessed : List Witnessed
  events : map (λ (e : Witnessed). e.event) witnessed ≡ es
  kept : AllKept witnessed (first d)
  inv : Inv (account witnessed (first d)) s

-- each call keeps the law
act_goes : (a : Account) (c : Act) (fs : List Frame) (x : Losses) (s t : State) → Inv a s → Acts c fs x s t → Goes a (event c fs x s) t
act_goes a (Begin m o r) fs x s t inv c = begin_goes a x fs m o r s t inv c
act_goes a (Serve r) fs x s t inv c = serve_goes a x fs r s t inv c
act_goes a (Hear r) fs x s t inv c = hear_goes a x fs r s t inv c
act_goes a (Tick r) fs x s t inv c = tick_goes a x fs r s t inv c
act_goes a (Settle k buffer r after) fs x s t inv c = settle_goes a x fs k buffer r after s t inv c

event_goes : (a : Account) (e : Event) (s t : State) → Inv a s → Happens e s t → Goes a e t
event_goes a e s t inv h = subst (λ l. Goes a (record e { lost = l }) t) (sym h.lost) (act_goes a e.act e.sent e.losses s t inv h.called)

known_more : (d : List Entry) (es : List Event) (e : Event) (s t : State) → Known d es s → Happens e s t → Known d (es ++ e ∷ []) t
known_more d es e s t k h =
    let g = event_goes (account k.witnessed (first d)) e s t k.inv h in
    let x : Witnessed = record { event = e; set = g.set } in
    record {
      witnessed = k.witnessed ++ x ∷ [];
      events = map-append (λ (e : Witnessed). e.event) k.witnessed (x ∷ []) ∙ ap (λ xs. xs ++ e ∷ []) k.events;
      kept = kept_more k.witnessed x (first d) k.kept g.kept;
      inv = subst (λ a. Inv a t) (sym (account_more k.witnessed x (first d))) g.inv;
    }

known_run : (d : List Entry) (s : State) (es : List Event) (t : State) → Known d [] s → Run s es t → Known d es t
known_run d s es t k none = k
known_run d s es t k (more fs u v e run h) = known_more d fs e u v (known_run d s fs u k run) h

-- a new bench
known_fresh : (d : List Entry) → Lawful d → (n : NodeNumber) (b : BlockSize) → Known d [] (fresh d n b)
known_fresh d lawful n b = record {
  witnessed = [];
  events = refl;
  kept = tt;
  inv = record {
    ahead = false;
    base = record {
      lawful = lawful;
      indexed = omega arith;
      same = refl;
      allowed = λ e. cc;
      dictionary = refl;
      count = refl;
      number = omega arith;
      begun = omega arith;
      frames = few refl (omega arith);
    };
    stage = rests refl (record { waiting = inl refl; idle_in_time = inl refl }) refl;
  };
}

pub law_stands : LawStands
law_stands d lawful n b es s run =
    let k = known_run d (fresh d n b) es s (known_fresh d lawful n b) run in
    record {
      witnessed = k.witnessed;
      events = k.events;
      kept = k.kept;
      ahead = k.inv.ahead;
      there = can_be_set (account k.witnessed (first d)) s k.inv;
      dictionary = k.inv.base.dictionary;
      count = k.inv.base.count;
    }

-- an act as the contract of its call has it: with some losses
abbrev pub Happened : Act → List Frame → State → State → Type 0
Happened a fs s t = (x : Losses) × Acts a fs x s t

pub begin_happened : (m : Multiplexor) (o : Order) {r : Result ℕ BeginRefusal} (s : State) {t : State} → Indexed m → r ≡ begin_answer m o s → (ls : List Bool) × (t ≡ begin_step m o ls s) → Happened (Begin m o r) (begin_frames m o s) s t
begin_happened m o s own answer after = (record { of_master = after.0; of_node = false }, (own, answer, refl, after.1))

pub serve_happened : {r : Served} (s : State) {t : State} → r ≡ serve_answer s → (lost : Bool) × (t ≡ serve_step lost s) → Happened (Serve r) [] s t
serve_happened s answer after = (record { of_master = []; of_node = after.0 }, (answer, refl, after.1))

pub hear_happened : {r : Heard} (s : State) {t : State} → r ≡ hear_answer s → (ls : List Bool) × (t ≡ hear_step ls s) → Happened (Hear r) (hear_frames s) s t
hear_happened s answer after = (record { of_master = after.0; of_node = false }, (answer, refl, after.1))

pub tick_happened : {r : Ticked} (s : State) {t : State} → r ≡ tick_answer s → (ls : List Bool) × (lost : Bool) × (t ≡ tick_step ls lost s) → Happened (Tick r) (tick_frames s) s t
tick_happened s answer after = (record { of_master = after.0; of_node = after.1 }, (answer, refl, after.2))

pub settle_happened : (k : ℕ) (buffer : List ℕ) {r : Result Report SettleRefusal} {after : List ℕ} (s : State) {t : State} → r ≡ settle_answer k buffer s → after ≡ settle_buffer k buffer s → (ls : List Bool) × (t ≡ settle_step k buffer ls s) → Happened (Settle k buffer r after) (settle_frames k buffer s) s t
settle_happened k buffer s answer filled after = (record { of_master = after.0; of_node = false }, (answer, filled, refl, after.1))

-- it is an event, and keeps the law

pub happens : (a : Act) (fs : List Frame) (s t : State) (h : Happened a fs s t) → Happens (event a fs h.0 s) s t
happens a fs s t h = record { lost = refl; called = h.1 }

-- an act that happened is one of an event
pub act_happens : (a : Act) (fs : List Frame) {s t : State} → Happened a fs s t → (e : Event) × (e.act ≡ a) × Happens e s t
act_happens a fs {s} {t} h = (event a fs h.0 s, refl, happens a fs s t h)

pub keeps_law : (a : Act) (fs : List Frame) (s t : State) → Happened a fs s t → KeepsLaw a fs s t
keeps_law a fs s t h = (
  h.0,
  λ d lawful n b es run.
      let e = event a fs h.0 s in
      let all = es ++ e ∷ [] in
      let longer : Run (fresh d n b) all t = more es s t e run (happens a fs s t h) in
      record { run = longer; law = law_stands d lawful n b all t longer },
)

pub law_throughout : (d : List Entry) → Lawful d → (n : NodeNumber) (b : BlockSize) (es : List Event) (s : State) → Run (fresh d n b) es s → LawThroughout d n b es s
law_throughout d lawful n b es s run = record { run = run; law = λ fs t begins part. law_stands d lawful n b fs t part }
