-- A transfer sets one value at most: a commit leaves the node idle, and an idle node sets nothing before the next start.
use Rattle.std.proofs.Common.{◌≡◌, ℕ, ◌≤◌, Bool, true, false, cond, eqb, List, [], ◌∷◌, Some, None, Option, ◌⊎◌, inl, inr, sym, refl, ap, subst, arith}
use Rattle.wire.specs.declared.frame.Frame.{Frame}
use Rattle.wire.specs.Frames.{request_identifier}
use Rattle.sdo.specs.Requests.{Request, request_in}
use Rattle.sdo.specs.Requests as request
use Rattle.dictionary.specs.Entries.{Entry}
use Rattle.node.specs.States.{State, Activity, Idle}
use Rattle.node.specs.Steps.{Step, Setting, dropped, understood, interpreted, step}
use Rattle.node.specs.Nodes.{timed_out, waited, tick}
use Rattle.node.specs.Laws.{in_block}
use Rattle.node.specs.Runs.{Scene, Event, Serve, Tick, happened, asks_start, starts, startless, number_of, set_in, commits_in, OneAtMost}
use Rattle.node.proofs.Sorting.{Kind, commits, refuses, stops, answers, drops, keeps, waits, step-kind}

-- nothing is set, and the node is idle
record Rests (p : Step) : Type 0 where
  unset : p.set ≡ None
  over : p.next ≡ Idle

-- what an idle node makes of all but a start
rests : (d : List Entry) (n : ℕ) (o : Option Request) → asks_start o ≡ false → Rests (understood d n Idle o)
rests d n None h = record { unset = refl; over = refl }
rests d n (Some (request.InitiateDownload m how)) h = cc
rests d n (Some (request.DownloadSegment u w last)) h = record { unset = refl; over = refl }
rests d n (Some (request.InitiateUpload m)) h = cc
rests d n (Some (request.UploadSegment u)) h = record { unset = refl; over = refl }
rests d n (Some (request.InitiateBlockDownload m c size)) h = cc
rests d n (Some (request.EndBlockDownload unused k)) h = record { unset = refl; over = refl }
rests d n (Some (request.Abort m c)) h = record { unset = refl; over = refl }

-- of a frame that is the node's or not
abbrev Startless : Bool → Activity → List ℕ → Type 0
Startless own t bytes = cond own (cond (in_block t) false (asks_start (request_in bytes))) false ≡ false

module _ (d : List Entry) (n : ℕ) (bytes : List ℕ) where
  taken_rests : (own : Bool) → Startless own Idle bytes → Rests (cond own (interpreted d n Idle bytes) (dropped Idle))
  taken_rests true h = rests d n (request_in bytes) h
  taken_rests false h = record { unset = refl; over = refl }

  idle_rests : (own : Bool) (t : Activity) → Idle ≡ t → Startless own t bytes → Rests (cond own (interpreted d n t bytes) (dropped t))
  idle_rests own t e = subst (λ (t : Activity). Startless own t bytes → Rests (cond own (interpreted d n t bytes) (dropped t))) e (taken_rests own)

ticked : (x y : Bool) (s : State) → s.activity ≡ Idle → (cond x (record { next = s; reply = None }) (cond y (timed_out s) (waited s))).next.activity ≡ Idle
ticked true y s e = e
ticked false true s e = refl
ticked false false s e = e

-- an event that is no start leaves an idle node idle and sets nothing
record Stays (x : Scene) (e : Event) : Type 0 where
  none : set_in x e ≡ 0
  idle : (happened e x).node.activity ≡ Idle

stays : (x : Scene) (e : Event) → x.node.activity ≡ Idle → starts x.node e ≡ false → Stays x e
unfolding step tick
stays x (Serve None) i h = record { none = refl; idle = i }
stays x (Serve (Some f)) i h =
    let own : Bool = eqb f.identifier.number (request_identifier x.node.number).number in
    let r = idle_rests x.dictionary x.node.block_size.number f.bytes own x.node.activity (sym i) h in
    record { none = ap number_of r.unset; idle = r.over }
stays x Tick i h = record { none = refl; idle = ticked _ _ x.node i }

-- the first of some events is no start, and neither is any of the others
record Apart (b r : Bool) : Type 0 where
  first : b ≡ false
  others : r ≡ true

apart : (b r : Bool) → cond b false r ≡ true → Apart b r
apart true r h = cc
apart false r h = record { first = refl; others = h }

none_set : (es : List Event) (x : Scene) → x.node.activity ≡ Idle → startless x es ≡ true → commits_in x es ≡ 0
none_set [] x i h = refl
none_set (e ∷ es) x i h =
    let a = apart (starts x.node e) (startless (happened e x) es) h in
    let s = stays x e i a.first in
    let rest = none_set es (happened e x) s.idle a.others in
    omega (arith, s.none, rest)

-- a step sets nothing, or leaves the node idle
idle_or_unset : (d : List Entry) (p : Step) → Kind d p → (p.set ≡ None) ⊎ (p.next ≡ Idle)
idle_or_unset d p (commits m v a e) = inr refl
idle_or_unset d p (refuses m c) = inl refl
idle_or_unset d p stops = inl refl
idle_or_unset d p (answers t a q) = inl refl
idle_or_unset d p (drops t) = inl refl
idle_or_unset d p (keeps t) = inl refl
idle_or_unset d p (waits t) = inl refl

by_frame : (x : Scene) (f : Frame) → ((step x.dictionary x.node (Some f)).set ≡ None) ⊎ ((step x.dictionary x.node (Some f)).next ≡ Idle) → (set_in x (Serve (Some f)) ≡ 0) ⊎ ((happened (Serve (Some f)) x).node.activity ≡ Idle)
by_frame x f (inl h) = inl (ap number_of h)
by_frame x f (inr h) = inr h

by_event : (x : Scene) (e : Event) → (set_in x e ≡ 0) ⊎ ((happened e x).node.activity ≡ Idle)
unfolding step
by_event x (Serve None) = inl refl
by_event x (Serve (Some f)) = by_frame x f (idle_or_unset x.dictionary (step x.dictionary x.node (Some f)) (step-kind x.dictionary x.node (Some f)))
by_event x Tick = inl refl

one_by : (o : Option Setting) → number_of o ≤ 1
one_by None = omega arith
one_by (Some v) = omega arith

one_in : (x : Scene) (e : Event) → set_in x e ≤ 1
one_in x (Serve f) = one_by (step x.dictionary x.node f).set
one_in x Tick = omega arith

-- one event, and then some: where it sets nothing, those count, and else those set nothing
joined : (x : Scene) (e : Event) (es : List Event) → (set_in x e ≡ 0) ⊎ ((happened e x).node.activity ≡ Idle) → startless (happened e x) es ≡ true → commits_in (happened e x) es ≤ 1 → commits_in x (e ∷ es) ≤ 1
joined x e es (inl none) h rest = omega (arith, none, rest)
joined x e es (inr idle) h rest =
    let one = one_in x e in
    let still = none_set es (happened e x) idle h in
    omega (arith, one, still)

at_most : (es : List Event) (x : Scene) (e : Event) → startless (happened e x) es ≡ true → commits_in x (e ∷ es) ≤ 1
at_most [] x e h = let one = one_in x e in omega (arith, one)
at_most (f ∷ es) x e h =
    let a = apart (starts (happened e x).node f) (startless (happened f (happened e x)) es) h in
    joined x e (f ∷ es) (by_event x e) h (at_most es (happened e x) f a.others)

pub one_at_most : OneAtMost
one_at_most x e es h = at_most es x e h
