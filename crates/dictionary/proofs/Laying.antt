-- The rows of a table lie apart, so that what is written below or above them leaves their values.
use Rattle.std.proofs.Common.{◌≡◌, ℕ, zero, suc, ◌+◌, ◌-◌, ◌<◌, ◌≤◌, true, List, [], ◌∷◌, length, get_or, take, drop, sym, refl, ap, ◌∙◌, arith}
use Rattle.std.proofs.lemmas.List.{drop-drop, drop-take, take-take}
use Rattle.std.proofs.lemmas.Bool.{eqb-true}
use Rattle.dictionary.specs.declared.row.Row.{Row}
use Rattle.dictionary.specs.Additions.{needed}
use Rattle.dictionary.specs.Entries.{Entry}
use Rattle.dictionary.specs.Layouts.{row_at, held, entry, entries, laid}
use Rattle.dictionary.specs.TableLaws.{first_laid, laid_forward}

module _ (bytes : List ℕ) where
  pub length-entries : (rows : List Row) → length (entries bytes rows) ≡ length rows
  length-entries [] = refl
  length-entries (r ∷ rs) = ap suc (length-entries rs)

  -- the entry at a place is that of the row there
  pub get_or-entries : (rows : List Row) (i : ℕ) (x : Entry) → i < length rows → get_or (entries bytes rows) i x ≡ entry bytes (row_at rows i)
  get_or-entries [] i x h = absurd (omega arith)
  get_or-entries (r ∷ rs) zero x h = refl
  get_or-entries (r ∷ rs) (suc i) x h = get_or-entries rs i x (omega arith)

  -- laid rows take all longest lengths together
  pub needed-laid : (start : ℕ) (rows : List Row) (stop : ℕ) → laid start rows stop ≡ true → start + needed (entries bytes rows) ≡ stop
  needed-laid start [] stop h = omega (arith, eqb-true start stop h)
  needed-laid start (r ∷ rs) stop h =
      let f = first_laid start r rs stop h in
      let ih = needed-laid (start + r.attributes.longest) rs stop f.rest in omega arith

-- where a laid row lies
pub record Slot (start : ℕ) (r : Row) (stop : ℕ) : Type 0 where
  pub from : start ≤ r.start
  pub to : r.start + r.attributes.longest ≤ stop
  pub fitting : r.length ≤ r.attributes.longest

pub laid_slot : (start : ℕ) (rows : List Row) (stop i : ℕ) → laid start rows stop ≡ true → i < length rows → Slot start (row_at rows i) stop
laid_slot start [] stop i h l = absurd (omega arith)
laid_slot start (r ∷ rs) stop zero h l =
    let f = first_laid start r rs stop h in
    let g = laid_forward (start + r.attributes.longest) rs stop f.rest in
    record { from = omega arith; to = omega arith; fitting = f.short_enough }
laid_slot start (r ∷ rs) stop (suc i) h l =
    let f = first_laid start r rs stop h in
    let s = laid_slot (start + r.attributes.longest) rs stop i f.rest (omega arith) in
    record { from = omega arith; to = s.to; fitting = s.fitting }

module _ (bytes bytes' : List ℕ) where
  -- a value below a place stays where the bytes below it do
  pub held_below : (r : Row) (e : ℕ) → r.start + r.length ≤ e → take e bytes' ≡ take e bytes → held bytes' r ≡ held bytes r
  held_below r e h same =
      let n = r.start + r.length in
      let shown : (b : List ℕ) → held b r ≡ drop r.start (take n (take e b)) = λ b. sym (ap (drop r.start) (take-take n e b h) ∙ drop-take r.start r.length b) in
      shown bytes' ∙ ap (λ (b : List ℕ). drop r.start (take n b)) same ∙ sym (shown bytes)

  -- a value above a place stays where the bytes above it do
  held-above : (r : Row) (e : ℕ) → e ≤ r.start → drop e bytes' ≡ drop e bytes → held bytes' r ≡ held bytes r
  held-above r e h same =
      let k = r.start - e in
      let n : e + k ≡ r.start = omega arith in
      let shown : (b : List ℕ) → held b r ≡ take r.length (drop k (drop e b)) = λ b. sym (ap (take r.length) (drop-drop k e b ∙ ap (λ (j : ℕ). drop j b) n)) in
      shown bytes' ∙ ap (λ (b : List ℕ). take r.length (drop k b)) same ∙ sym (shown bytes)

  -- all that lies below a place stays
  pub entries_below : (start : ℕ) (rows : List Row) (stop : ℕ) → laid start rows stop ≡ true → take stop bytes' ≡ take stop bytes → entries bytes' rows ≡ entries bytes rows
  entries_below start [] stop h same = refl
  entries_below start (r ∷ rs) stop h same =
      let f = first_laid start r rs stop h in
      let g = laid_forward (start + r.attributes.longest) rs stop f.rest in
      let e = held_below r stop (omega arith) same in
      let ih = entries_below (start + r.attributes.longest) rs stop f.rest same in
      cc (e, ih)

  -- all that lies above a place stays
  pub entries-above : (start : ℕ) (rows : List Row) (stop e : ℕ) → laid start rows stop ≡ true → e ≤ start → drop e bytes' ≡ drop e bytes → entries bytes' rows ≡ entries bytes rows
  entries-above start [] stop e h l same = refl
  entries-above start (r ∷ rs) stop e h l same =
      let f = first_laid start r rs stop h in
      let g = held-above r e (omega arith) same in
      let ih = entries-above (start + r.attributes.longest) rs stop e f.rest (omega arith) same in
      cc (g, ih)
