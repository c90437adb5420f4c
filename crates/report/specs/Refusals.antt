-- The numbers of the refusals that settling gives.
use Rattle.std.specs.Prelude.{ℕ}
use Rattle.report.specs.declared.refusal.SettleRefusal.{SettleRefusal}
use Rattle.report.specs.declared.refusal.SettleRefusal.TheVariants.{NotOut, ShortBuffer}

abbrev pub settle_number : SettleRefusal → ℕ
settle_number NotOut = 6
settle_number ShortBuffer = 7
