-- A transfer begins only where no ticket is out.
use Rattle.std.proofs.Common.{◌≡◌, ℕ, None, Ok, refl}
use Rattle.wire.specs.declared.multiplexor.Multiplexor.{Multiplexor}
use Rattle.master.specs.States as master
use Rattle.master.specs.States.{uncleared}
use Rattle.master.specs.Calls.{Order, begin}
use Rattle.master.proofs.Outcomes.{by_phase}
use Rattle.bench.specs.Model.States.{State}
use Rattle.bench.specs.Model.Calls.{ticket_number, begin_answer}

refuses : (m : Multiplexor) (o : Order) (s : master.State) (n : ℕ) → ticket_number (begin s m o).answer ≡ Ok n → uncleared s ≡ None
unfolding begin
refuses m o s n = by_phase (λ u. ticket_number (begin u m o).answer ≡ Ok n → uncleared u ≡ None) (λ u e. refl) (λ w u e. cc) (λ k u e. cc) s

pub none_out : (m : Multiplexor) (o : Order) (s : State) (n : ℕ) → begin_answer m o s ≡ Ok n → uncleared s.master ≡ None
none_out m o s n said = refuses m o s.master n said
