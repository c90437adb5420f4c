-- The parts that `split` gives are the pieces of a text, but for an empty one behind a separator at its end, which means nothing.
use Rattle.std.proofs.Common.{◌≡◌, ℕ, ◌+◌, Bool, true, false, cond, not, eqb, List, [], ◌∷◌, ◌++◌, length, refl, ap, subst, ◌∙◌, ◌⊎◌, inl, inr}
use denote.Ref.{Bor}
use denote.Param.Members.{Mut}
use Rattle.std.specs.Fn.{CalledAt}
use Rattle.std.specs.Iterator.Adapters.{filter_source, filter_callee, filter_steps}
use Rattle.std.specs.List.{slice_split, onto_first}
use Rattle.std.specs.Slice.Iter.{split_rest, split_done, split_callee, split_steps}
use Rattle.std.specs.declared.iter.Filter.{Filter}
use Rattle.std.specs.declared.slice.Split.{Split}
use Rattle.std.proofs.lemmas.Iterator.{YieldsList}
use Rattle.std.proofs.lemmas.Iterator.Consumers.{YieldsList-from_filter, YieldsList-at}
use Rattle.std.proofs.lemmas.Iterator.Splits.{YieldsList-from_slice_split}
use Rattle.orders.specs.Lines.{line_meaning}
use Rattle.orders.specs.Pieces.{is_blank, is_line_end, pieces, not_empty, lines, words}
use Rattle.orders.specs.Texts.{orders_on, orders_in, bad_on, bad_in}

-- the pieces ps, or these and an empty one
abbrev Splits : List (List ℕ) → List (List ℕ) → Type 0
Splits ss ps = (ss ≡ ps) ⊎ (ss ≡ ps ++ [] ∷ [])

splits_onto : (b : ℕ) (ss ps : List (List ℕ)) → Splits ss ps → Splits (onto_first b ss) (onto_first b ps)
splits_onto b ss ps (inl e) = inl (ap (onto_first b) e)
splits_onto b ss [] (inr e) = inl (ap (onto_first b) e)
splits_onto b ss (p ∷ ps) (inr e) = inr (ap (onto_first b) e)

splits_past : (ss ps : List (List ℕ)) → Splits ss ps → Splits ([] ∷ ss) ([] ∷ ps)
splits_past ss ps (inl e) = inl (ap (λ l. [] ∷ l) e)
splits_past ss ps (inr e) = inr (ap (λ l. [] ∷ l) e)

split_pieces : (parts : ℕ → Bool) (bs : List ℕ) → Splits (slice_split parts bs) (pieces parts bs)
split_pieces parts [] = inr refl
split_pieces parts (b ∷ bs) =
    let rest = split_pieces parts bs in
    elim (parts b) as (λ c. Splits (cond c ([] ∷ slice_split parts bs) (onto_first b (slice_split parts bs))) (cond c ([] ∷ pieces parts bs) (onto_first b (pieces parts bs)))) [ true ↦ splits_past _ _ rest | false ↦ splits_onto b _ _ rest ]

-- what says nothing of an empty piece at the end says the same of the parts as of the pieces
same : {A : Type 0} (f : List (List ℕ) → A) → ((ps : List (List ℕ)) → f (ps ++ [] ∷ []) ≡ f ps) → (ss ps : List (List ℕ)) → Splits ss ps → f ss ≡ f ps
same f skips ss ps (inl e) = ap f e
same f skips ss ps (inr e) = ap f e ∙ skips ps

no_word : (ps : List (List ℕ)) → not_empty (ps ++ [] ∷ []) ≡ not_empty ps
no_word [] = refl
no_word (p ∷ ps) = ap (λ l. cond (not (eqb (length p) 0)) (p ∷ l) l) (no_word ps)

no_order : (ps : List (List ℕ)) → orders_in (ps ++ [] ∷ []) ≡ orders_in ps
no_order [] = refl
no_order (p ∷ ps) = ap (λ l. orders_on (line_meaning p) ++ l) (no_order ps)

no_fault : (ps : List (List ℕ)) (n : ℕ) → bad_in n (ps ++ [] ∷ []) ≡ bad_in n ps
no_fault [] n = refl
no_fault (p ∷ ps) n = ap (λ l. bad_on n (line_meaning p) ++ l) (no_fault ps (n + 1))

pub words_split : (line : List ℕ) → not_empty (slice_split is_blank line) ≡ words line
words_split line = same not_empty no_word _ _ (split_pieces is_blank line)

pub orders_split : (text : List ℕ) → orders_in (slice_split is_line_end text) ≡ orders_in (lines text)
orders_split text = same orders_in no_order _ _ (split_pieces is_line_end text)

pub bad_split : (text : List ℕ) → bad_in 1 (slice_split is_line_end text) ≡ bad_in 1 (lines text)
bad_split text = same (bad_in 1) (λ ps. no_fault ps 1) _ _ (split_pieces is_line_end text)

-- the words of a line come of its parts at blanks, where only those that are not empty are kept
pub words_come : {F E : Type 0} {s : Filter (Split ℕ F) E} (g : Mut F (Bor ℕ × Unit {0}) Bool) (h : Mut E (Bor (Bor (List ℕ)) × Unit {0}) Bool) {split : Split ℕ F} {f : F} {e : E} (line : List ℕ)
    → filter_source s ≡ split → split_rest split ≡ line → split_done split ≡ false → split_callee split ≡ f → filter_callee s ≡ e
    → ((x : ℕ) (b : Bool) (q : F) → CalledAt g f x b q → (q ≡ f) × (b ≡ is_blank x))
    → ((x : Bor (List ℕ)) (b : Bool) (q : E) → CalledAt h e x b q → (q ≡ e) × (b ≡ not (eqb (length x.now) 0)))
    → YieldsList (filter_steps (split_steps g) h) (λ w. w.now) s (words line)
words_come g h line source rest done closure keep blank kept =
    subst (YieldsList (filter_steps (split_steps g) h) (λ w. w.now) _) (words_split line)
    (YieldsList-from_filter h (λ p. not (eqb (length p) 0)) (YieldsList-at source (YieldsList-from_slice_split g is_blank line rest done closure blank)) keep kept)
