-- The numbers of the refusals that a master gives.
use Rattle.std.specs.Prelude.{ℕ}
use Rattle.master.specs.declared.refusal.BeginRefusal.{BeginRefusal}
use Rattle.master.specs.declared.refusal.BeginRefusal.TheVariants.{NotCleared, Resting, AllBegun, ValueLength, NotExpedited}

abbrev pub begin_number : BeginRefusal → ℕ
begin_number NotCleared = 1
begin_number Resting = 2
begin_number AllBegun = 3
begin_number ValueLength = 4
begin_number NotExpedited = 5
