-- What a master is once what it has handed out is gone.
use Rattle.std.specs.Prelude.{◌≡◌, ⊤}
use Rattle.std.specs.Borrow.{Fml, MutBor, follows_so}
use mathlib.Core.Option.{none}
use Rattle.master.specs.States.{State}
use Rattle.master.specs.contracts.master.Master.{the_row}

-- the master ends as t
abbrev pub leaves : MutBor State → State → Fml
leaves s t = follows_so the_row the_row s.ghost_name none (λ _ _. ⊤) (λ u. u ≡ t)
