-- What is counted in the acts of transfers: only the settle of each can count.
use Rattle.std.proofs.Common.{◌≡◌, ℕ, ◌+◌, Bool, true, false, cond, List, [], ◌∷◌, ◌++◌, Some, None, Ok, Option, refl, ap, arith}
use Rattle.report.specs.declared.report.Outcome.{Outcome}
use Rattle.report.specs.declared.report.Report.{Report}
use Rattle.bench.specs.Law.Runs.{Act, Tick, Settle}
use Rattle.rounds.specs.Rounds as round
use Rattle.rounds.specs.Rounds.{Serves, ServesAll, Hears, HearsAll, Round, Goes, Rounds, Ticks, Carries, CarriesOut}
use Rattle.exports.specs.Transfers.{reports, told_in}

module _ (such : Outcome → Bool) where
  abbrev count : List Act → ℕ
  count = told_in such

  pub told_more : (xs ys : List Act) → count (xs ++ ys) ≡ count xs + count ys
  told_more [] ys = omega arith
  told_more (x ∷ xs) ys = let rest = told_more xs ys in omega arith

  -- two lists that tell nothing, one behind the other
  silent_more : (xs ys : List Act) → count xs ≡ 0 → count ys ≡ 0 → count (xs ++ ys) ≡ 0
  silent_more xs ys first then = let both = told_more xs ys in omega arith

  silent_serves : (n : ℕ) (xs : List Act) → Serves n xs → count xs ≡ 0
  silent_serves n xs round.none = refl
  silent_serves n xs (round.more m ys r all found) = silent_more ys _ (silent_serves m ys all) refl

  silent_serves_all : (xs : List Act) → ServesAll xs → count xs ≡ 0
  silent_serves_all xs (round.ended n ys few all) = silent_more ys _ (silent_serves n ys all) refl
  silent_serves_all xs (round.full ys all) = silent_serves 300 ys all

  silent_hears : (n : ℕ) (over : Bool) (xs : List Act) → Hears n over xs → count xs ≡ 0
  silent_hears n over xs round.none = refl
  silent_hears n over xs (round.over m was ys all) = silent_more ys _ (silent_hears m was ys all) refl
  silent_hears n over xs (round.more m was ys r all found goes) = silent_more ys _ (silent_hears m was ys all) refl

  silent_hears_all : (over : Bool) (xs : List Act) → HearsAll over xs → count xs ≡ 0
  silent_hears_all over xs (round.ended n was ys few all) = silent_more ys _ (silent_hears n was ys all) refl
  silent_hears_all over xs (round.full was ys all) = silent_hears 300 was ys all

  silent_round : (over : Bool) (xs : List Act) → Round over xs → count xs ≡ 0
  silent_round over xs (round.round was ys zs r served heard) =
      silent_more (ys ++ zs) (Tick r ∷ []) (silent_more ys zs (silent_serves_all ys served) (silent_hears_all was zs heard)) refl

  silent_goes : (n : ℕ) (xs : List Act) → Goes n xs → count xs ≡ 0
  silent_goes n xs round.none = refl
  silent_goes n xs (round.more m ys zs all one) = silent_more ys zs (silent_goes m ys all) (silent_round false zs one)

  silent_rounds : (xs : List Act) → Rounds xs → count xs ≡ 0
  silent_rounds xs (round.ended n ys zs few all last) = silent_more ys zs (silent_goes n ys all) (silent_round true zs last)
  silent_rounds xs (round.full ys all) = silent_goes 13000 ys all

  silent_ticks : (n : ℕ) (xs : List Act) → Ticks n xs → count xs ≡ 0
  silent_ticks n xs round.none = refl
  silent_ticks n xs (round.more m ys r all) = silent_more ys _ (silent_ticks m ys all) refl

  told_carried : (k : ℕ) (r : Report) (buffer after : List ℕ) (xs : List Act) → Carries k r buffer after xs → count xs ≡ cond (such r.outcome) 1 0
  told_carried k r buffer after xs (round.carries ys zs rounds rests) =
      let both = told_more ys (Settle k buffer (Ok r) after ∷ zs) in
      let before = silent_rounds ys rounds in
      let behind = silent_ticks _ zs rests in
      omega arith

  pub told_carried_out : (held : Option ℕ) (r : Option Report) (buffer after : List ℕ) (xs : List Act) → CarriesOut held r buffer after xs → count xs ≡ cond (reports such r) 1 0
  told_carried_out (Some k) (Some r) buffer after xs carried = told_carried k r buffer after xs carried
  told_carried_out (Some k) None buffer after xs carried = absurd carried
  told_carried_out None (Some r) buffer after xs carried = absurd carried
  told_carried_out None None buffer after xs carried = ap (λ zs. count zs) carried.0
