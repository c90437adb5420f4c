-- The parts of a round, and of a transfer, one behind the other.
use Rattle.std.proofs.Common.{◌≡◌, ℕ, Bool, ◌||◌, List, [], ◌∷◌, ◌++◌, Some, None, Ok, Option, refl, sym, ap, ◌∙◌, subst, append_assoc}
use Rattle.wire.specs.declared.frame.Frame.{Frame}
use Rattle.report.specs.declared.report.Report.{Report}
use Rattle.bench.specs.declared.response.Ticked.{Ticked}
use Rattle.bench.specs.Model.States.{State}
use Rattle.bench.specs.Model.Calls.{settle_frames}
use Rattle.bench.specs.Law.Runs.{Act, Tick, Settle}
use Rattle.bench.specs.Tickets.{SettlesHeld}
use Rattle.bench.proofs.Law.Runs.{Happened, settle_happened}
use Rattle.rounds.specs.Rounds.{ServesAll, HearsAll, Round, round, Rounds, Ticks, resting, Carries, carries, CarriesOut, Went}
use Rattle.rounds.proofs.Went.{went_nowhere, went_on, went_by}

pub round_went : (over : Bool) (r : Ticked) (fs : List Frame) (s t u v : State) → Went ServesAll s t → Went (HearsAll over) t u → Happened (Tick r) fs u v → Went (Round (over || r.ended)) s v
round_went over r fs s t u v served heard ticked =
    let both = λ (zs : List Act). (xs : List Act) × (ys : List Act) × ServesAll xs × HearsAll over ys × (zs ≡ xs ++ ys) in
    went_by both (Round (over || r.ended)) (Tick r) fs s u v
    (λ zs h. subst (λ z. Round (over || r.ended) (z ++ Tick r ∷ [])) (sym h.4) (round over h.0 h.1 r h.2 h.3))
    (went_on ServesAll (HearsAll over) both s t u (λ xs ys all heard. (xs, ys, all, heard, refl)) served heard)
    ticked

-- the ticket is settled between the rounds and the rest
carries_out : (k : ℕ) (r : Report) (buffer after : List ℕ) (s t u v : State) → Went Rounds s t → SettlesHeld (Some k) (Some (Ok r)) buffer after t u → Went (Ticks (resting r.outcome)) u v → Went (Carries k r buffer after) s v
carries_out k r buffer after s t u v rounds settled rested =
    let a = Settle k buffer (Ok r) after in
    let last = λ (zs : List Act). (xs : List Act) × Rounds xs × (zs ≡ xs ++ a ∷ []) in
    went_on last (Ticks (resting r.outcome)) (Carries k r buffer after) s u v
    (λ zs ys h rest. subst (λ z. Carries k r buffer after z) (sym (ap (λ z. z ++ ys) h.2 ∙ append_assoc h.0 (a ∷ []) ys)) (carries h.0 ys h.1 rest))
    (went_by Rounds last a (settle_frames k buffer t) s t u (λ xs all. (xs, all, refl)) rounds (settle_happened k buffer t settled.0 settled.1 settled.2))
    rested

pub held_carried_out : (held : Option ℕ) (r : Report) (buffer after : List ℕ) (s t u v : State) → Went Rounds s t → SettlesHeld held (Some (Ok r)) buffer after t u → Went (Ticks (resting r.outcome)) u v → Went (CarriesOut held (Some r) buffer after) s v
held_carried_out None r buffer after s t u v rounds settled rested = absurd (let none = settled.0 in cc)
held_carried_out (Some k) r buffer after s t u v rounds settled rested = carries_out k r buffer after s t u v rounds settled rested

-- where no ticket is held
pub none_carried_out : (held : Option ℕ) (r : Option Report) (buffer : List ℕ) (s : State) → held ≡ None → r ≡ None → Went (CarriesOut held r buffer buffer) s s
none_carried_out held r buffer s out none = rw (out, none) (went_nowhere (CarriesOut None None buffer buffer) s (refl, refl))
