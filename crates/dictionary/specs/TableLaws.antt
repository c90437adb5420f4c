-- That the entries of laid rows are lawful, as every dictionary owes.
use Rattle.std.specs.Prelude.{◌≡◌, ℕ, ◌+◌, ◌-◌, ◌≤◌, true, List, [], ◌∷◌, length, drop, ◌==◌, nat_le}
use Rattle.std.proofs.Common.{sym, subst}
use Rattle.std.proofs.Math.Arith.{add-le_cancel_left}
use Rattle.std.proofs.Math.Nat.{le_of_eq, le_trans, le-add_right, add-le-add, add-sub_of_le}
use Rattle.std.proofs.lemmas.Bool.{and_parts, eqb-true, leb-true}
use Rattle.std.proofs.lemmas.List.{length-drop, length-take-le}
use Rattle.dictionary.specs.declared.row.Row.{Row}
use Rattle.dictionary.specs.Entries.{Leads, Lawful}
use Rattle.dictionary.specs.Layouts.{held, entry, entries, leads, laid_at, laid}

-- what it says that a row is laid before others
pub record First (start : ℕ) (r : Row) (rs : List Row) (stop : ℕ) : Type 0 where
  pub here : r.start ≡ start
  pub some : 1 ≤ r.attributes.shortest
  pub ordered : r.attributes.shortest ≤ r.attributes.longest
  pub bounded : r.attributes.longest ≤ 1024
  pub long_enough : r.attributes.shortest ≤ r.length
  pub short_enough : r.length ≤ r.attributes.longest
  pub leading : leads r rs ≡ true
  pub rest : laid (start + r.attributes.longest) rs stop ≡ true

pub first_laid : (start : ℕ) (r : Row) (rs : List Row) (stop : ℕ) → laid start (r ∷ rs) stop ≡ true → First start r rs stop
first_laid start r rs stop h =
    let a = r.attributes in
    let p = and_parts (laid_at start r) _ h in
    let q = and_parts (leads r rs) _ p.1 in
    let s = and_parts (r.start == start) _ p.0 in
    let t = and_parts (nat_le 1 a.shortest) _ s.1 in
    let u = and_parts (nat_le a.shortest a.longest) _ t.1 in
    let v = and_parts (nat_le a.longest 1024) _ u.1 in
    let w = and_parts (nat_le a.shortest r.length) _ v.1 in
    record {
      here = eqb-true _ _ s.0;
      some = leb-true _ _ t.0;
      ordered = leb-true _ _ u.0;
      bounded = leb-true _ _ v.0;
      long_enough = leb-true _ _ w.0;
      short_enough = leb-true _ _ w.1;
      leading = q.0;
      rest = q.1;
    }

-- laid rows end no lower than they start
pub laid_forward : (start : ℕ) (rows : List Row) (stop : ℕ) → laid start rows stop ≡ true → start ≤ stop
laid_forward start [] stop h = le_of_eq (eqb-true start stop h)
laid_forward start (r ∷ rs) stop h =
    let longest = r.attributes.longest in
    le_trans (le-add_right start longest) (laid_forward (start + longest) rs stop (first_laid start r rs stop h).rest)

leads_entries : (bytes : List ℕ) (r : Row) (rs : List Row) → leads r rs ≡ true → Leads (entry bytes r) (entries bytes rs)
leads_entries bytes r [] h = tt
leads_entries bytes r (q ∷ qs) h = h

-- what begins at a place and ends within a length is no longer than what lies behind the place
behind : (start n size : ℕ) → start + n ≤ size → n ≤ size - start
behind start n size h =
    let all : start + (size - start) ≡ size = add-sub_of_le (le_trans (le-add_right start n) h) in
    add-le_cancel_left start (subst (λ k. start + n ≤ k) (sym all) h)

-- a laid row's value has the row's length
length_held : (bytes : List ℕ) (r : Row) → r.start + r.length ≤ length bytes → length (held bytes r) ≡ r.length
length_held bytes r h =
    length-take-le r.length (drop r.start bytes) (subst (λ n. r.length ≤ n) (sym (length-drop r.start bytes)) (behind r.start r.length (length bytes) h))

pub entries_lawful : (bytes : List ℕ) (start : ℕ) (rows : List Row) (stop : ℕ) → stop ≤ length bytes → laid start rows stop ≡ true → Lawful (entries bytes rows)
entries_lawful bytes start [] stop room h = tt
entries_lawful bytes start (r ∷ rs) stop room h =
    let f = first_laid start r rs stop h in
    let end = le_trans (laid_forward (start + r.attributes.longest) rs stop f.rest) room in
    let n = sym (length_held bytes r (le_trans (add-le-add (le_of_eq f.here) f.short_enough) end)) in (
      record {
        some = f.some;
        ordered = f.ordered;
        bounded = f.bounded;
        long_enough = subst (λ k. r.attributes.shortest ≤ k) n f.long_enough;
        short_enough = subst (λ k. k ≤ r.attributes.longest) n f.short_enough;
      },
      leads_entries bytes r rs f.leading,
      entries_lawful bytes (start + r.attributes.longest) rs stop room f.rest,
    )
