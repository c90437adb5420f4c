-- Calls made one after the other: their answers, their events, and the run that they are.
use Rattle.std.proofs.Common.{◌≡◌, ℕ, ◌+◌, ◌<◌, List, [], ◌∷◌, ◌++◌, length, get_or, take, sym, subst}
use Rattle.std.proofs.lemmas.List.{take_more}
use Rattle.bench.specs.Model.States.{State}
use Rattle.bench.specs.Law.Runs.{Event, Happens, Run, none, more}
use Rattle.bench.specs.declared.call.Call.{Call}
use Rattle.bench.specs.declared.response.Response.{Response}
use Rattle.bench.specs.Answers.{IsAct, Tied}

-- one more call behind others
tied_more : (ds : List Call) (answers : List Response) (es : List Event) (d : Call) (a : Response) (e : Event) → Tied ds answers es → IsAct d a e.act → Tied (ds ++ d ∷ []) (answers ++ a ∷ []) (es ++ e ∷ [])
tied_more [] [] [] d a e tied does = (does, tt)
tied_more [] [] (x ∷ es) d a e tied does = absurd tied
tied_more [] (x ∷ answers) es d a e tied does = absurd tied
tied_more (x ∷ ds) [] es d a e tied does = absurd tied
tied_more (x ∷ ds) (y ∷ answers) [] d a e tied does = absurd tied
tied_more (x ∷ ds) (y ∷ answers) (z ∷ es) d a e tied does = (tied.0, tied_more ds answers es d a e tied.1 does)

-- some calls were made between two states
pub record Made (ds : List Call) (answers : List Response) (s t : State) : Type 0 where
  pub events : List Event
  pub tied : Tied ds answers events
  pub run : Run s events t

pub none_made : (s : State) → Made [] [] s s
none_made s = record { events = []; tied = tt; run = none }

one_more_made : {ds : List Call} {answers : List Response} {s t u : State} (d : Call) (a : Response) → Made ds answers s t → (e : Event) × IsAct d a e.act × Happens e t u → Made (ds ++ d ∷ []) (answers ++ a ∷ []) s u
one_more_made {ds} {answers} {s} {t} {u} d a made act = record {
  events = made.events ++ act.0 ∷ [];
  tied = tied_more ds answers made.events d a act.0 made.tied act.1;
  run = more made.events t u act.0 made.run act.2;
}

-- the call at a place is made, after all before it
pub next_made : (calls : List Call) (i : ℕ) (first : Call) (a : Response) {answers all : List Response} {s t u : State} → i < length calls → all ≡ answers ++ a ∷ [] → Made (take i calls) answers s t → (e : Event) × IsAct (get_or calls i first) a e.act × Happens e t u → Made (take (i + 1) calls) all s u
next_made calls i first a {answers} {all} {s} {t} {u} inside pushed made act =
    let longer = one_more_made (get_or calls i first) a made act in
    let ds = sym (take_more calls i first inside) in
    subst (λ xs. Made (take (i + 1) calls) xs s u) (sym pushed) (subst (λ ds. Made ds (answers ++ a ∷ []) s u) ds longer)
