-- A row laid behind all others: the rows stay laid, and the dictionary has one entry more at its end.
use Rattle.std.proofs.Common.{◌≡◌, ℕ, ◌+◌, ◌<◌, ◌≤◌, true, not, ltb, leb, List, [], ◌∷◌, ◌++◌, length, take, drop, None, sym, refl, ap, ◌∙◌, arith, length-append, take_all}
use Rattle.std.proofs.lemmas.List.{drop_at, take_at}
use Rattle.std.proofs.lemmas.Bool.{and_parts, and_from, eq-eqb, eqb-true, leb-false, ltb-false, not-false}
use Rattle.wire.specs.declared.multiplexor.Multiplexor.{Multiplexor}
use Rattle.dictionary.specs.declared.attributes.Attributes.{Attributes}
use Rattle.dictionary.specs.declared.refusal.AddRefusal.TheVariants.{Full, NotAbove, Unlawful, NoRoom}
use Rattle.dictionary.specs.declared.row.Row.{Row}
use Rattle.dictionary.specs.declared.table.Table.{Table}
use Rattle.dictionary.specs.Additions.{last_at, is_above, needed, add_refusal}
use Rattle.dictionary.specs.Entries.{Entry}
use Rattle.dictionary.specs.Layouts.{entry, entries, leads, laid, laid_at}
use Rattle.dictionary.specs.Plain.{plain, lawful_lengths}
use Rattle.dictionary.specs.Tables.{table_entries}
use Rattle.dictionary.proofs.Laying.{entries_below}
use Rattle.dictionary.proofs.Lengths.{fits-longest, lawful_fits, lawful-bounded}
use Rattle.dictionary.proofs.Presence.{passed}
use Rattle.dictionary.proofs.TableFacts.{table_length, table_needed}

module _ (bytes : List ℕ) where
  entries_push : (rows : List Row) (r : Row) → entries bytes (rows ++ r ∷ []) ≡ entries bytes rows ++ entry bytes r ∷ []
  entries_push [] r = refl
  entries_push (q ∷ qs) r = ap (λ (d : List Entry). entry bytes q ∷ d) (entries_push qs r)

  -- the rows stay laid
  laid_push : (start : ℕ) (rows : List Row) (stop : ℕ) (r : Row) → laid start rows stop ≡ true → laid_at stop r ≡ true → is_above (last_at (entries bytes rows)) r.multiplexor ≡ true → laid start (rows ++ r ∷ []) (stop + r.attributes.longest) ≡ true
  laid_push start [] stop r h here up =
      let e = eqb-true start stop h in
      and_from _ _ (ap (λ (n : ℕ). laid_at n r) e ∙ here) (eq-eqb _ _ (omega arith))
  laid_push start (q ∷ []) stop r h here up =
      let p = and_parts (laid_at start q) _ h in
      and_from _ _ p.0 (and_from _ _ up (laid_push (start + q.attributes.longest) [] stop r p.1 here refl))
  laid_push start (q ∷ p ∷ ps) stop r h here up =
      let f = and_parts (laid_at start q) _ h in
      let g = and_parts (leads q (p ∷ ps)) _ f.1 in
      and_from _ _ f.0 (and_from _ _ g.0 (laid_push (start + q.attributes.longest) (p ∷ ps) stop r g.1 here up))

-- a table that takes an entry
pub record Free (t : Table) (m : Multiplexor) (a : Attributes) (v : List ℕ) : Type 0 where
  pub row : length t.rows.items < 64
  pub up : is_above (last_at (table_entries t)) m ≡ true
  pub lawful : lawful_lengths a (length v) ≡ true
  pub room : length t.bytes.items + a.longest ≤ 4096
  pub short : length v ≤ a.longest
  pub bounded : a.longest ≤ 1024

module _ (t : Table) (m : Multiplexor) (a : Attributes) (v : List ℕ) where
  -- the row of a new entry
  abbrev pub fresh : Row
  fresh = record { multiplexor = m; attributes = a; start = length t.bytes.items; length = length v }

  pub free : add_refusal (table_entries t) m a v ≡ None → Free t m a v
  free h =
      let d = table_entries t in
      let n = table_length t in
      let b = table_needed t in
      let p = passed (leb 64 (length d)) Full _ h in
      let q = passed (not (is_above (last_at d) m)) NotAbove _ p.1 in
      let r = passed (not (lawful_lengths a (length v))) Unlawful _ q.1 in
      let s = passed (ltb 4096 (needed d + a.longest)) NoRoom _ r.1 in
      let few = leb-false 64 (length d) p.0 in
      let room = ltb-false 4096 (needed d + a.longest) s.0 in
      let lawful = not-false _ r.0 in
      record { row = omega arith; up = not-false _ q.0; lawful = lawful; room = omega arith; short = fits-longest a (length v) (lawful_fits a (length v) lawful); bounded = lawful-bounded a (length v) lawful }

  module _ (f : Free t m a v) (spare : List ℕ) where
    -- the bytes with the value and what is spare behind all others
    abbrev pub extended : List ℕ
    extended = t.bytes.items ++ (v ++ spare)

    pub table_extended : length v + length spare ≡ a.longest → laid 0 (t.rows.items ++ fresh ∷ []) (length extended) ≡ true
    table_extended all =
        let n : length extended ≡ length t.bytes.items + a.longest = simp length-append (omega arith) in
        ap (laid 0 (t.rows.items ++ fresh ∷ [])) n
        ∙ laid_push t.bytes.items 0 t.rows.items (length t.bytes.items) fresh t.layout (and_from _ _ (eq-eqb _ _ refl) f.lawful) f.up

    pub table_appended : entries extended (t.rows.items ++ fresh ∷ []) ≡ table_entries t ++ plain m a v ∷ []
    table_appended =
        let n = length t.bytes.items in
        let here : take (length v) (drop n extended) ≡ v = ap (take (length v)) (drop_at t.bytes.items _ n refl) ∙ take_at v spare (length v) refl in
        let same : take n extended ≡ take n t.bytes.items = take_at t.bytes.items (v ++ spare) n refl ∙ sym (take_all n t.bytes.items (omega arith)) in
        let below = entries_below t.bytes.items extended 0 t.rows.items n t.layout same in
        entries_push extended t.rows.items fresh ∙ cc (here, below)
