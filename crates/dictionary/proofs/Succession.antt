-- The entries of a lawful dictionary stand apart and in order, and the next one above a multiplexor is the lowest.
use Rattle.std.proofs.Common.{◌≡◌, true, false, cond, ◌⊎◌, List, [], ◌∷◌, Some, sym, refl, ap, ◌∙◌, subst, inl, inr, arith}
use Rattle.std.proofs.lemmas.Bool.{both_ways, cases_Bool, false≢true}
use Rattle.std.proofs.lemmas.List.Elements.{All-nil, All-cons, All-weaker}
use Rattle.wire.specs.declared.multiplexor.Multiplexor.{Multiplexor}
use Rattle.wire.specs.Multiplexors.{same, before}
use Rattle.dictionary.specs.Entries.{Entry, Leads, Lawful, entry_at}
use Rattle.dictionary.specs.Laws.{There, Next, NextFound, NextNone, OneEntry}
use Rattle.dictionary.specs.Verdicts.{is_there}
use Rattle.wire.proofs.Multiplexors.{same_equal, same_itself, before-before, before_apart}
use Rattle.dictionary.proofs.Presence.{passed}

-- what stands in a list stands at its first entry or in the rest
there_cases : (k : Multiplexor) (e : Entry) (es : List Entry) → There (e ∷ es) k → (e.at ≡ k) ⊎ There es k
there_cases k e es h =
    elim (cases_Bool (same e.at k)) [
      | inl t ↦ inl (same_equal e.at k t)
      | inr t ↦ inr (rw t at h)
    ]

-- what stands in the rest stands in the list
there-more : (k : Multiplexor) (e : Entry) (es : List Entry) → There es k → There (e ∷ es) k
there-more k e es h = elim (same e.at k) as (λ b. is_there (cond b (Some e) (entry_at k es)) ≡ true) [ true ↦ refl | false ↦ h ]

-- an entry stands at the first multiplexor
there_first : (e : Entry) (es : List Entry) → There (e ∷ es) e.at
there_first e es = let own = same_itself e.at in rw own

-- what leads a lawful list stands before all that stands in it
leads_all : (e : Entry) (es : List Entry) (k : Multiplexor) → Leads e es → Lawful es → There es k → before e.at k ≡ true
leads_all e [] k leads lawful h = absurd (false≢true h)
leads_all e (f ∷ fs) k leads (sound, leads', rest) h =
    elim (there_cases k f fs h) [
      | inl own ↦ ap (λ (n : Multiplexor). before e.at n) (sym own) ∙ leads
      | inr more ↦ before-before e.at f.at k leads (leads_all f fs k leads' rest more)
    ]

pub next_none : NextNone
next_none [] m h k there = absurd (false≢true there)
next_none (e ∷ es) m h k there =
    let p = passed (before m e.at) e.at _ h in
    elim (there_cases k e es there) [
      | inl own ↦ ap (before m) (sym own) ∙ p.0
      | inr more ↦ next_none es m p.1 k more
    ]

pub next_found : NextFound
next_found [] m n lawful h = grind arith
next_found (e ∷ es) m n (sound, leads, rest) h =
    elim (cases_Bool (before m e.at)) [
      | inl up ↦
          let first : Some e.at ≡ Some n = rw up at h in
          let here : e.at ≡ n = cc in
          let P : Multiplexor → Type 0 = λ x. Next (e ∷ es) m x in
          subst P here (record {
            above = up;
            there = there_first e es;
            lowest = λ k there _. elim (there_cases k e es there) [ inl own ↦ inl (sym own) | inr more ↦ inr (leads_all e es k leads rest more) ];
          })
      | inr not-up ↦
          let f = next_found es m n rest (rw not-up at h) in
          record {
            above = f.above;
            there = there-more n e es f.there;
            lowest = λ k there up. elim (there_cases k e es there) [
              | inl own ↦ absurd (both_ways (before m k) (ap (before m) (sym own) ∙ not-up) up)
              | inr more ↦ f.lowest k more up
            ];
          }
    ]

pub one_entry : OneEntry
one_entry [] lawful = All-nil (λ (e : Entry). entry_at e.at [] ≡ Some e)
one_entry (e ∷ es) (sound, leads, rest) =
    let own = same_itself e.at in
    let Found : List Entry → Entry → Type 0 = λ d f. entry_at f.at d ≡ Some f in
    let here : Found (e ∷ es) e = rw own in
    All-cons (Found (e ∷ es)) e es here
    (All-weaker (Found es) (Found (e ∷ es))
    (λ f h. let apart = before_apart e.at f.at (leads_all e es f.at leads rest (ap is_there h)) in rw apart h)
    es (one_entry es rest))
