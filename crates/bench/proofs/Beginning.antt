-- A begin that is refused changes nothing.
use Rattle.std.proofs.Common.{◌≡◌, Bool, List, [], Err, sym, ap, ◌∙◌}
use Rattle.wire.specs.declared.multiplexor.Multiplexor.{Multiplexor}
use Rattle.master.specs.declared.refusal.BeginRefusal.{BeginRefusal}
use Rattle.master.specs.States as master
use Rattle.master.specs.Runs.{accepted}
use Rattle.master.specs.Calls.{Order, free, start, begin}
use Rattle.master.proofs.Outcomes.{refused_as}
use Rattle.bench.specs.Model.States.{State}
use Rattle.bench.specs.Model.Calls.{begun_as, begin_step}

pub stays : (s : master.State) (m : Multiplexor) (o : Order) (e : BeginRefusal) → Err e ≡ (begin s m o).answer → (begin s m o).next ≡ s
unfolding begin
stays s m o e said = (refused_as (free s) (start m o) s m o (ap accepted (sym said))).0

pub begin_refused : (s : State) (m : Multiplexor) (o : Order) {next : master.State} {e : BeginRefusal} → next ≡ (begin s.master m o).next → Err e ≡ (begin s.master m o).answer → (ls : List Bool) × (record s { master = next } ≡ begin_step m o ls s)
unfolding begin_step
begin_refused s m o {e = e} moved said = (
  [],
  ap (λ t. record s { master = t }) (moved ∙ stays s.master m o e said)
      ∙ ap (λ r. begun_as r (begin s.master m o).next [] s) said,
)
