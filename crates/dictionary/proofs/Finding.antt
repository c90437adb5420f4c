-- What is found in a table's rows is what is found in its entries.
use native.Mathlib.Numerals.{unary_clauses}
use Rattle.std.specs.Borrow.{Bor}
use Rattle.std.specs.List.{list_any, position_from}
use Rattle.std.specs.Option.{IfSome, is_some, option_map, option_copied}
use Rattle.std.proofs.Common.{◌≡◌, ℕ, zero, suc, ◌+◌, ◌-◌, ◌<◌, ◌≤◌, Bool, true, false, eqb, ltb, List, [], ◌∷◌, get_or, slice_get, length, Some, None, Option, sym, refl, ap, ◌∙◌, arith}
use Rattle.std.proofs.lemmas.Bool.{cond-true, cond-false, ltb-true, ltb-false}
use Rattle.std.proofs.lemmas.Option.{slice_get_past, slice_get-get_or}
use Rattle.std.proofs.lemmas.Bool.Decides.{nat_tests}
use Rattle.search.specs.Places as search
use Rattle.wire.specs.declared.multiplexor.Multiplexor.{Multiplexor}
use Rattle.wire.specs.Multiplexors.{same, before}
use Rattle.wire.proofs.Multiplexors.{before_back, behind, not_itself, above_same}
use Rattle.dictionary.specs.declared.row.Row.{Row}
use Rattle.dictionary.specs.declared.table.Table.{Table}
use Rattle.dictionary.specs.Additions.{last_at}
use Rattle.dictionary.specs.Entries.{has_index}
use Rattle.dictionary.specs.Layouts.{entries, leads, laid}
use Rattle.dictionary.specs.Places.{place_from, place_at}
use Rattle.dictionary.specs.Questions.{next_above}
use Rattle.dictionary.specs.TableLaws.{first_laid}
use Rattle.dictionary.specs.Tables.{table_entries}

-- a row's multiplexor
abbrev pub at : Row → Multiplexor
at r = r.multiplexor

-- whether a row has a multiplexor
abbrev pub is_at : Multiplexor → Row → Bool
is_at m r = same (at r) m

-- whether a row has an index
abbrev pub is_of : ℕ → Row → Bool
is_of i r = eqb (at r).index i

-- whether some row is there and has an index
abbrev pub has_one : ℕ → Option Row → Bool
has_one i None = false
has_one i (Some r) = is_of i r

-- the row that is found at a place
pub got : (rows : List Row) (n : ℕ) (o : Option (Bor Row)) → is_some o ≡ ltb n (length rows) → IfSome o (λ r. r.now ≡ get_or rows n r.now) → option_copied o ≡ slice_get rows n
got rows n None e h = sym (slice_get_past rows n (ltb-false n (length rows) (sym e)))
got rows n (Some r) e h = ap Some h ∙ sym (slice_get-get_or rows n r.now (ltb-true n (length rows) (sym e)))

-- what parts some rows parts those behind the first
parts_rest : {m : Multiplexor} {r : Row} {rs : List Row} {n : ℕ} → search.Parts before at m (r ∷ rs) (suc n) → search.Parts before at m rs n
parts_rest parts =
    record { below = λ i d h. parts.below (suc i) d (omega arith); above = λ i d l h. parts.above (suc i) d (omega arith) (omega arith) }

module _ (bytes : List ℕ) where
  -- behind a row with a higher index no row has an index
  none_behind : (i : ℕ) (r : Row) (rs : List Row) → search.Rising before at (r ∷ rs) → i < (at r).index → has_index i (entries bytes rs) ≡ false
  none_behind i r [] up h = refl
  none_behind i r (q ∷ qs) up h = let ih = none_behind i q qs up.1 in let step = up.0 in grind (arith, nat_tests, ih, step)

  -- an index is found where its first multiplexor parts rising rows, or nowhere
  pub index_there : (i : ℕ) (rows : List Row) (n : ℕ) → search.Rising before at rows → search.Parts before at (record { index = i; subindex = 0 }) rows n → has_index i (entries bytes rows) ≡ has_one i (slice_get rows n)
  index_there i [] n up parts = refl
  index_there i (r ∷ rs) zero up parts =
      let low = parts.above 0 r (omega arith) (omega arith) in
      let behind = none_behind i r rs up in grind (arith, nat_tests, low, behind)
  index_there i (r ∷ rs) (suc n) up parts =
      let low = parts.below 0 r (omega arith) in
      let ih = index_there i rs n up.1 (parts_rest parts) in grind (arith, nat_tests, low, ih)

  -- an index is found where some row has it
  pub index_of_any : (i : ℕ) (rows : List Row) → list_any (is_of i) rows ≡ has_index i (entries bytes rows)
  index_of_any i [] = refl
  index_of_any i (r ∷ rs) = let ih = index_of_any i rs in grind (arith, nat_tests, ih)

  -- the first row with a multiplexor has the place of its entry
  pub walk_alike : (rows : List Row) (n : ℕ) (m : Multiplexor) → position_from (is_at m) n rows ≡ place_from n m (entries bytes rows)
  walk_alike [] n m = refl
  walk_alike (r ∷ rs) n m = let ih = walk_alike rs (n + 1) m in grind (arith, nat_tests, ih)

  -- the place of a row is that of its entry
  place_alike : (rows : List Row) (n : ℕ) (m : Multiplexor) → search.place_from before at n m rows ≡ place_from n m (entries bytes rows)
  place_alike [] n m = refl
  place_alike (r ∷ rs) n m = let ih = place_alike rs (n + 1) m in grind (arith, nat_tests, ih)

  -- The place where a multiplexor parts rising rows leads to the first entry above it: the row there, or the next where that one has the multiplexor.

  not_yet : (m : Multiplexor) (r : Row) (rs : List Row) (n : ℕ) → search.Parts before at m (r ∷ rs) (suc n) → next_above (entries bytes (r ∷ rs)) m ≡ next_above (entries bytes rs) m
  not_yet m r rs n parts = cond-false _ _ _ (before_back (at r) m (parts.below 0 r (omega arith)))

  pub above_none : (m : Multiplexor) (rows : List Row) (n : ℕ) → search.Parts before at m rows n → length rows ≤ n → next_above (entries bytes rows) m ≡ option_map at (slice_get rows n)
  above_none m [] n parts h = refl
  above_none m (r ∷ rs) zero parts h = absurd (omega arith)
  above_none m (r ∷ rs) (suc n) parts h = not_yet m r rs n parts ∙ above_none m rs n (parts_rest parts) (omega arith)

  pub above_there : (m : Multiplexor) (rows : List Row) (n : ℕ) (d : Row) → search.Parts before at m rows n → n < length rows → same (at (get_or rows n d)) m ≡ false → next_above (entries bytes rows) m ≡ option_map at (slice_get rows n)
  above_there m [] n d parts h apart = absurd (omega arith)
  above_there m (r ∷ rs) zero d parts h apart = cond-true _ _ _ (behind (at r) m (parts.above 0 r (omega arith) h) apart)
  above_there m (r ∷ rs) (suc n) d parts h apart = not_yet m r rs n parts ∙ above_there m rs n d (parts_rest parts) (omega arith) apart

  pub above_itself : (m : Multiplexor) (rows : List Row) (n : ℕ) (d : Row) → search.Rising before at rows → search.Parts before at m rows n → n < length rows → same (at (get_or rows n d)) m ≡ true → next_above (entries bytes rows) m ≡ option_map at (slice_get rows (suc n))
  above_itself m [] n d up parts h is = absurd (omega arith)
  above_itself m (r ∷ []) zero d up parts h is = cond-false _ _ _ (not_itself (at r) m is)
  above_itself m (r ∷ q ∷ qs) zero d up parts h is = cond-false _ _ _ (not_itself (at r) m is) ∙ cond-true _ _ _ (above_same (at r) (at q) m is up.0)
  above_itself m (r ∷ rs) (suc n) d up parts h is = not_yet m r rs n parts ∙ above_itself m rs n d up.1 (parts_rest parts) (omega arith) is

  -- the last row is that of the last entry
  pub last_row : (rows : List Row) → last_at (entries bytes rows) ≡ option_map at (slice_get rows (length rows - 1))
  last_row [] = refl
  last_row (r ∷ []) = refl
  last_row (r ∷ q ∷ qs) = let ih = last_row (q ∷ qs) in simp unary_clauses (simp unary_clauses at ih)

leads_rising : (r : Row) (rs : List Row) → leads r rs ≡ true → search.Leads before at r rs
leads_rising r [] h = tt
leads_rising r (q ∷ qs) h = h

-- laid rows rise
laid_rising : (start : ℕ) (rows : List Row) (stop : ℕ) → laid start rows stop ≡ true → search.Rising before at rows
laid_rising start [] stop h = tt
laid_rising start (r ∷ rs) stop h =
    let f = first_laid start r rs stop h in (leads_rising r rs f.leading, laid_rising (start + r.attributes.longest) rs stop f.rest)

module _ (t : Table) where
  pub table_rising : search.Rising before at t.rows.items
  table_rising = laid_rising 0 t.rows.items (length t.bytes.items) t.layout

  -- the place that is found among a table's rows is that of the entry
  pub table_place : (m : Multiplexor) (o : Option ℕ) → (search.Rising before at t.rows.items → search.Answers before at m t.rows.items o) → o ≡ place_at m (table_entries t)
  table_place m o h = (h table_rising).place ∙ place_alike t.bytes.items t.rows.items 0 m
