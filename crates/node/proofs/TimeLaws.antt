-- When a node's time runs out.
use Rattle.std.proofs.Common.{◌≡◌, ℕ, zero, suc, ◌+◌, ◌<◌, ◌≤◌, false, sym, refl, ap, ◌∙◌, add-zero, arith}
use Rattle.std.proofs.lemmas.Bool.{cond-true, cond-false, le-leb, lt-leb}
use Rattle.node.specs.States.{State, is_idle}
use Rattle.node.specs.Steps.{step}
use Rattle.node.specs.Nodes.{Tick, timed_out, waited, tick}
use Rattle.node.specs.Laws.{passed, FramesRestart, NoneChangesNothing, TimeRunsOut}

pub frames_restart : FramesRestart
frames_restart d s f = refl

pub none_changes_nothing : NoneChangesNothing
unfolding step
none_changes_nothing d s = (refl, refl)

-- a node with another time
abbrev at_time : ℕ → State → State
at_time n s = record s { ticks = n }

-- a tick of a busy node before the 25th, and the 25th
early : (s : State) → is_idle s.activity ≡ false → s.ticks < 24 → tick s ≡ waited s
unfolding tick
early s busy h = rw busy (cond-false _ _ _ (lt-leb _ (s.ticks + 1) (omega arith)))

late : (s : State) → is_idle s.activity ≡ false → s.ticks ≡ 24 → tick s ≡ timed_out s
unfolding tick
late s busy h = rw busy (cond-true _ _ _ (le-leb _ (s.ticks + 1) (omega arith)))

-- ticks add up
add_up : (n : ℕ) (s : State) → is_idle s.activity ≡ false → s.ticks + n ≤ 24 → passed n s ≡ at_time (s.ticks + n) s
add_up zero s busy h = ap (λ (k : ℕ). at_time k s) (sym (add-zero s.ticks))
add_up (suc n) s busy h =
    let k : s.ticks + n < 24 = omega arith in
    let more : (s.ticks + n) + 1 ≡ s.ticks + suc n = omega arith in
    ap (λ (x : State). (tick x).next) (add_up n s busy (omega arith)) ∙ ap (λ (x : Tick). x.next) (early (at_time (s.ticks + n) s) busy k) ∙ ap (λ (j : ℕ). at_time j s) more

pub time_runs_out : TimeRunsOut
time_runs_out s busy start =
    let full : passed 24 s ≡ at_time (s.ticks + 24) s = add_up 24 s busy (omega arith) in
    let last : tick (passed 24 s) ≡ timed_out (at_time (s.ticks + 24) s) = ap tick full ∙ late (at_time (s.ticks + 24) s) busy (omega arith) in
    record {
      silent = λ n h. ap (λ (x : State). (tick x).reply) (add_up n s busy (omega arith)) ∙ ap (λ (x : Tick). x.reply) (early (at_time (s.ticks + n) s) busy (omega arith));
      busy = λ n h. ap (λ (x : State). x.activity) (add_up n s busy (omega arith));
      abort = ap (λ (x : Tick). x.reply) last;
      over = ap (λ (x : Tick). x.next.activity) last;
    }
