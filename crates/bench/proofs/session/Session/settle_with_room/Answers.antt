use Rattle.std.proofs.Common.{◌≡◌, ◌≤◌, ℕ, List, min, replicate, ap, ◌∙◌, subst, arith}
use Rattle.std.proofs.lemmas.List.{take-replicate}
use Rattle.bench.specs.Law.Runs.{Event, Happens}
use Rattle.bench.specs.Answers.{IsSettle}
use Rattle.bench.proofs.Rooms.{roomier, short_alike}
use Rattle.bench.proofs.session.Session.settle_with_room.Goals as goal

pub returns : goal.returns
returns g c =
    let of = g.B.Steppable.state in
    let room = c.args.room in
    let long : c.min-length.result ≡ min room 1024 = c.min-length.ensures ∙ ap (λ (n : ℕ). min n 1024) c.from.ensures in
    let inside : c.min-length.result ≤ 1024 = omega (arith, long) in
    let zeros = take-replicate c.min-length.result 1024 0 inside ∙ ap (λ (n : ℕ). replicate n 0) long in
    let settled = subst (λ (buffer : List ℕ). (e : Event) × IsSettle c.args.number buffer c.settle_number.result e.act × Happens e (of c.args.self.now.bench) (of c.settle_number.new.self.bench)) zeros c.settle_number.ensures in
    roomier c.args.number (replicate (min room 1024) 0) (replicate room 0) c.settle_number.result _ _ (short_alike room) settled
