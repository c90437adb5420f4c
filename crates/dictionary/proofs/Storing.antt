-- A value stored in a row: the rows stay laid, and the dictionary has the value at the row's place and nothing else changed.
use Rattle.std.proofs.Common.{◌≡◌, ℕ, zero, suc, ◌+◌, ◌<◌, ◌≤◌, true, eqb, List, [], ◌∷◌, length, set, refl, ap, ◌∙◌, arith, length-set, length-append, length-take, length-drop}
use Rattle.arrayvec.specs.ArrayVec.{ArrayVec, with_items}
use Rattle.arrayvec.proofs.ArrayVecLemmas.{items-with_items}
use Rattle.std.proofs.lemmas.Bool.{and_parts, and_from}
use Rattle.dictionary.specs.declared.row.Row.{Row}
use Rattle.dictionary.specs.declared.table.Table.{Table}
use Rattle.dictionary.specs.Layouts.{row_at, entries, leads, laid, laid_at, overwritten}
use Rattle.dictionary.specs.Places.{put_at}
use Rattle.dictionary.specs.Plain.{fits, lawful_lengths}
use Rattle.dictionary.specs.TableLaws.{first_laid, laid_forward}
use Rattle.dictionary.specs.Tables.{table_entries}
use Rattle.dictionary.proofs.Laying.{laid_slot, held_below, entries-above}
use Rattle.dictionary.proofs.Lengths.{lawful_refit}
use Rattle.dictionary.proofs.Overwriting.{take-overwritten, read-overwritten, drop-overwritten}

-- a row with another length in use
abbrev pub resized : ℕ → Row → Row
resized n r = record r { length = n }

leads-resized : (n : ℕ) (r : Row) (rs : List Row) → leads (resized n r) rs ≡ leads r rs
leads-resized n r [] = refl
leads-resized n r (q ∷ qs) = refl

leads_set : (n : ℕ) (r : Row) (rs : List Row) (i : ℕ) → leads r (set rs i (resized n (row_at rs i))) ≡ leads r rs
leads_set n r [] i = refl
leads_set n r (q ∷ qs) zero = refl
leads_set n r (q ∷ qs) (suc i) = refl

laid_at-resized : (n start : ℕ) (r : Row) → laid_at start r ≡ true → fits r.attributes n ≡ true → laid_at start (resized n r) ≡ true
laid_at-resized n start r h fit =
    let p = and_parts (eqb r.start start) (lawful_lengths r.attributes r.length) h in
    and_from _ _ p.0 (lawful_refit r.attributes n r.length p.1 fit)

-- the rows stay laid
laid-resized : (n start : ℕ) (rows : List Row) (stop i : ℕ) → laid start rows stop ≡ true → i < length rows → fits (row_at rows i).attributes n ≡ true → laid start (set rows i (resized n (row_at rows i))) stop ≡ true
laid-resized n start [] stop i h l fit = absurd (omega arith)
laid-resized n start (r ∷ rs) stop zero h l fit =
    let p = and_parts (laid_at start r) _ h in
    let q = and_parts (leads r rs) _ p.1 in
    and_from _ _ (laid_at-resized n start r p.0 fit) (and_from _ _ (leads-resized n r rs ∙ q.0) q.1)
laid-resized n start (r ∷ rs) stop (suc i) h l fit =
    let p = and_parts (laid_at start r) _ h in
    let q = and_parts (leads r rs) _ p.1 in
    and_from _ _ p.0 (and_from _ _ (leads_set n r rs i ∙ q.0) (laid-resized n (start + r.attributes.longest) rs stop i q.1 (omega arith) fit))

-- the entries are those of before with the value at the row's place
module _ (bytes : List ℕ) (v : List ℕ) where
  entries_stored : (start : ℕ) (rows : List Row) (stop i : ℕ) → laid start rows stop ≡ true → i < length rows → length v ≤ (row_at rows i).attributes.longest → stop ≤ length bytes → entries (overwritten (row_at rows i).start v bytes) (set rows i (resized (length v) (row_at rows i))) ≡ put_at i v (entries bytes rows)
  entries_stored start [] stop i h l fit room = absurd (omega arith)
  entries_stored start (r ∷ rs) stop zero h l fit room =
      let f = first_laid start r rs stop h in
      let g = laid_forward (start + r.attributes.longest) rs stop f.rest in
      let here = read-overwritten r.start v bytes (omega arith) in
      let rest = entries-above bytes (overwritten r.start v bytes) (start + r.attributes.longest) rs stop (start + r.attributes.longest) f.rest (omega arith) (drop-overwritten r.start v bytes (omega arith) _ (omega arith)) in
      cc (here, rest)
  entries_stored start (r ∷ rs) stop (suc i) h l fit room =
      let f = first_laid start r rs stop h in
      let s = laid_slot (start + r.attributes.longest) rs stop i f.rest (omega arith) in
      let at = (row_at rs i).start in
      let first = held_below bytes (overwritten at v bytes) r (start + r.attributes.longest) (omega arith) (take-overwritten at v bytes (omega arith) _ (omega arith)) in
      let ih = entries_stored (start + r.attributes.longest) rs stop i f.rest (omega arith) fit room in
      cc (first, ih)

-- the same of a table
module _ (t : Table) (i : ℕ) (within : i < length t.rows.items) where
  -- the rows, once the one at the place has another length
  abbrev pub rows_resized : ℕ → List Row
  rows_resized n = set t.rows.items i (resized n (row_at t.rows.items i))

  pub table_resized : (n : ℕ) → fits (row_at t.rows.items i).attributes n ≡ true → laid 0 (rows_resized n) (length t.bytes.items) ≡ true
  table_resized n fit = laid-resized n 0 t.rows.items (length t.bytes.items) i t.layout within fit

  pub table_stored : (v : List ℕ) → length v ≤ (row_at t.rows.items i).attributes.longest → entries (overwritten (row_at t.rows.items i).start v t.bytes.items) (rows_resized (length v)) ≡ put_at i v (table_entries t)
  table_stored v fit = entries_stored t.bytes.items v 0 t.rows.items (length t.bytes.items) i t.layout within fit (omega arith)

-- an overwrite within some bytes keeps their number
pub length-overwritten : (at : ℕ) (v bytes : List ℕ) → at + length v ≤ length bytes → length (overwritten at v bytes) ≡ length bytes
length-overwritten at v bytes h = simp (length-append, length-take, length-drop) (omega arith)

-- what the table's vectors hold once the row and the bytes are written through slices
pub entries_along : {b b' : List ℕ} {rs rs' : List Row} → b ≡ b' → rs ≡ rs' → entries b rs ≡ entries b' rs'
entries_along {b' = b'} {rs = rs} p q = ap (λ (b : List ℕ). entries b rs) p ∙ ap (entries b') q

pub laid_along : {b b' : List ℕ} {rs rs' : List Row} → b ≡ b' → rs ≡ rs' → laid 0 rs' (length b') ≡ true → laid 0 rs (length b) ≡ true
laid_along {b' = b'} {rs = rs} p q h = ap (λ (b : List ℕ). laid 0 rs (length b)) p ∙ ap (λ (l : List Row). laid 0 l (length b')) q ∙ h

pub rows_written : (r : ArrayVec Row) (rs : List Row) (i n : ℕ) → rs ≡ r.items → (with_items r (set rs i (resized n (row_at rs i)))).items ≡ set r.items i (resized n (row_at r.items i))
rows_written r rs i n e =
    ap (λ (l : List Row). (with_items r (set l i (resized n (row_at l i)))).items) e
    ∙ items-with_items r _ (length-set r.items i (resized n (row_at r.items i)))

pub bytes_written : (b : ArrayVec ℕ) (now new v : List ℕ) (rs rows : List Row) (i : ℕ) → now ≡ b.items → rs ≡ rows → length new ≡ length now → new ≡ overwritten (row_at rs i).start v now → (with_items b new).items ≡ overwritten (row_at rows i).start v b.items
bytes_written b now new v rs rows i p q n e =
    items-with_items b new (n ∙ ap length p)
    ∙ e
    ∙ ap (λ (l : List Row). overwritten (row_at l i).start v now) q
    ∙ ap (overwritten (row_at rows i).start v) p
