-- When a value is set: only by the last frame of a write, and only where nothing speaks against it.
use Rattle.std.proofs.Common.{◌≡◌, ℕ, Bool, true, None, refl, List}
use Rattle.sdo.specs.Answers.{Answer}
use Rattle.dictionary.specs.Entries.{Entry}
use Rattle.dictionary.specs.Verdicts.{write_verdict}
use Rattle.master.specs.declared.phase.Awaiting.{Awaiting}
use Rattle.master.specs.States as master
use Rattle.master.specs.Steps.{may_have_set}
use Rattle.node.specs.States.{Activity}
use Rattle.master.specs.declared.direction.Direction.{Direction}
use Rattle.master.specs.declared.direction.Direction.TheVariants as way
use Rattle.bench.proofs.Law.Exchange.{Replies, sets_at_once, sets_segments, sets_block}

pub record MaySet (d : List Entry) (M : master.State) (dir : Direction) (u : Awaiting) : Type 0 where
  pub last : may_have_set u M.value ≡ true
  pub way : dir ≡ way.Download
  pub undisputed : write_verdict d M.multiplexor M.value ≡ None

pub sets_last : {d : List Entry} {M : master.State} {nb : ℕ} {dir : Direction} {u : Awaiting} {t : Activity} {ahead lost : Bool} {a : Answer} → Replies d M nb dir u t ahead lost a → ahead ≡ true → MaySet d M dir u
sets_last (sets_at_once lost free) e = record { last = refl; way = refl; undisputed = free }
sets_last (sets_segments lost t k last free) e = record { last = last; way = refl; undisputed = free }
sets_last (sets_block lost free) e = record { last = refl; way = refl; undisputed = free }
sets_last h e = cc
