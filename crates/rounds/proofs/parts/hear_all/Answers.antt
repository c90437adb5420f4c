use Rattle.std.proofs.Common.{◌≡◌, ◌+◌, true, false, ◌≢◌, ◌⊎◌, inl, inr, refl, sym, ◌∙◌, subst, arith}
use Rattle.master.specs.declared.heard.Heard.{Heard}
use Rattle.master.specs.declared.heard.Heard.TheVariants.{NothingWaited, Dropped, Over, Sent}
use Rattle.bench.specs.Model.Calls.{hear_frames}
use Rattle.bench.specs.Law.Runs.{Hear}
use Rattle.bench.proofs.Law.Runs.{hear_happened}
use Rattle.bench.proofs.Held.{hear_holds}
use Rattle.rounds.specs.Rounds.{Went, Hears, HearsAll, none, more, over, ended, full}
use Rattle.rounds.proofs.Went.{went_nowhere, went_by, went_as}
use Rattle.rounds.proofs.parts.hear_all.Goals.{in-Over, in-Dropped}
use Rattle.rounds.proofs.parts.hear_all.Goals as goal

pub loop-init : goal.loop-init
loop-init g c = record { went = went_nowhere (Hears 0 false) _ none; ticket = refl; dictionary = refl }

-- another frame that was found tells that the transfer goes on
goes_on : (r : Heard) → (r ≡ Dropped) ⊎ (r ≡ Sent) → (r ≢ NothingWaited) × (r ≢ Over)
goes_on r (inl is) = (λ e. cc, λ e. cc)
goes_on r (inr is) = (λ e. cc, λ e. cc)

pub loop-preserved : goal.loop-preserved
loop-preserved g c =
    let of = g.B.Steppable.state in
    let n = c.loop.counter in
    let was = c.loop.over in
    let s = of c.args.session.now.bench in
    let t = of c.loop.session.bench in
    let u = of c.hear.new.self.bench in
    let r = c.hear.result in
    record {
      went = elim c.match-hear.branch [
        | in-Over w ↦ subst (λ o. Went (Hears (n + 1) o) s u) (sym w.over-is) (went_by (Hears n was) (Hears (n + 1) true) (Hear Over) (hear_frames t) s t u (λ xs all. over n was xs all) c.loop.invariant.went (hear_happened t w.in-Over.ensures.answer c.hear.ensures.after))
        | in-Dropped w ↦ let other = goes_on r w.in-Dropped.is in subst (λ o. Went (Hears (n + 1) o) s u) (sym w.over-is) (went_by (Hears n was) (Hears (n + 1) was) (Hear r) (hear_frames t) s t u (λ xs all. more n was xs r all other.0 other.1) c.loop.invariant.went (hear_happened t c.hear.ensures.answer c.hear.ensures.after))
      ];
      ticket = c.hear.new.self.own ∙ sym (hear_holds _ _ _ c.loop.session.own c.hear.ensures.after) ∙ c.loop.invariant.ticket;
      dictionary = c.hear.ensures.dictionary ∙ c.loop.invariant.dictionary;
    }

pub returns-in-NothingWaited-clause-went : goal.returns-in-NothingWaited-clause-went
returns-in-NothingWaited-clause-went g c =
    let of = g.B.Steppable.state in
    let n = c.loop.counter in
    let was = c.loop.over in
    let t = of c.loop.session.bench in
    went_by (Hears n was) (HearsAll was) (Hear NothingWaited) (hear_frames t) (of c.args.session.now.bench) t (of c.hear.new.self.bench) (λ xs all. ended n was xs c.loop-test.true all) c.loop.invariant.went (hear_happened t c.in-NothingWaited.ensures.answer c.hear.ensures.after)

pub returns-in-NothingWaited-clause-ticket : goal.returns-in-NothingWaited-clause-ticket
returns-in-NothingWaited-clause-ticket g c = c.hear.new.self.own ∙ sym (hear_holds _ _ _ c.loop.session.own c.hear.ensures.after) ∙ c.loop.invariant.ticket

pub returns-clause-went : goal.returns-clause-went
returns-clause-went g c =
    let of = g.B.Steppable.state in
    let was = c.loop.over in
    let whole : c.loop.counter ≡ 300 = omega arith in
    went_as (Hears c.loop.counter was) (HearsAll was) (of c.args.session.now.bench) (of c.loop.session.bench) (λ xs all. full was xs (subst (λ n. Hears n was xs) whole all)) c.loop.invariant.went
