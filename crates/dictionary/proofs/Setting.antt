-- What a commit changes and what it keeps.
use Rattle.std.proofs.Common.{◌≡◌, ℕ, ◌≤◌, Bool, true, false, cond, eqb, List, [], ◌∷◌, length, Some, None, Option, refl, ap, ◌∙◌, arith}
use Rattle.std.proofs.lemmas.Bool.{cond_both}
use Rattle.std.proofs.lemmas.Bool.Decides.{nat_tests}
use Rattle.wire.specs.declared.multiplexor.Multiplexor.{Multiplexor}
use Rattle.wire.specs.declared.abort_code.AbortCode.{AbortCode}
use Rattle.wire.specs.declared.abort_code.AbortCode.TheVariants.{NoObject, NoSubindex}
use Rattle.wire.specs.Multiplexors.{same}
use Rattle.dictionary.specs.Commits.{set_unless, committed}
use Rattle.dictionary.specs.Entries.{Entry, Leads, Lawful, entry_at, has_index, with_value, put}
use Rattle.dictionary.specs.Laws.{multiplexors, ValueSet, RefusedKept, OthersKept, OrderKept, AttributesKept, LawfulKept}
use Rattle.dictionary.specs.Questions.{absence, attributes_or, attributes, value_at}
use Rattle.dictionary.specs.Verdicts.{write_verdict}
use Rattle.dictionary.proofs.Deciding.{write_decided}

-- an entry leads others by its multiplexor, whatever its value
leads_valued : (v : List ℕ) (e : Entry) (es : List Entry) → Leads e es → Leads (with_value v e) es
leads_valued v e [] h = tt
leads_valued v e (f ∷ fs) h = h

module _ (m : Multiplexor) (v : List ℕ) where
  -- what holds of a list with its first entry set, and of one with its first entry kept, holds after a set
  put_cases : (P : List Entry → Type 0) (e : Entry) (es : List Entry) → (same e.at m ≡ true → P (with_value v e ∷ es)) → (same e.at m ≡ false → P (e ∷ put m v es)) → P (put m v (e ∷ es))
  put_cases P e es here there = cond_both (same e.at m) (with_value v e ∷ es) (e ∷ put m v es) P here there

  put-value : (d : List Entry) (e : Entry) → entry_at m d ≡ Some e → value_at (put m v d) m ≡ v
  put-value [] e h = grind arith
  put-value (f ∷ fs) e h =
      put_cases (λ l. value_at l m ≡ v) f fs
      (λ t. rw t)
      (λ t. rw t (put-value fs e (rw t at h)))

  put_others : (n : Multiplexor) → same n m ≡ false → (d : List Entry) → entry_at n (put m v d) ≡ entry_at n d
  put_others n apart [] = refl
  put_others n apart (f ∷ fs) =
      put_cases (λ l. entry_at n l ≡ entry_at n (f ∷ fs)) f fs
      (λ t. let other : same f.at n ≡ false = grind (arith, nat_tests, t, apart) in rw other)
      (λ t. ap (λ (o : Option Entry). cond (same f.at n) (Some f) o) (put_others n apart fs))

  put_order : (d : List Entry) → multiplexors (put m v d) ≡ multiplexors d
  put_order [] = refl
  put_order (f ∷ fs) =
      put_cases (λ l. multiplexors l ≡ multiplexors (f ∷ fs)) f fs
      (λ t. refl)
      (λ t. ap (λ (ms : List Multiplexor). f.at ∷ ms) (put_order fs))

  put-index : (i : ℕ) (d : List Entry) → has_index i (put m v d) ≡ has_index i d
  put-index i [] = refl
  put-index i (f ∷ fs) =
      put_cases (λ l. has_index i l ≡ has_index i (f ∷ fs)) f fs
      (λ t. refl)
      (λ t. ap (λ (b : Bool). cond (eqb f.at.index i) true b) (put-index i fs))

  put-attributes : (c : AbortCode) (n : Multiplexor) (d : List Entry) → attributes_or c (entry_at n (put m v d)) ≡ attributes_or c (entry_at n d)
  put-attributes c n [] = refl
  put-attributes c n (f ∷ fs) =
      let told : Bool → Entry → Option Entry → Type 0 = λ b e o. attributes_or c (cond b (Some e) o) ≡ attributes_or c (cond b (Some f) (entry_at n fs)) in
      put_cases (λ l. attributes_or c (entry_at n l) ≡ attributes_or c (entry_at n (f ∷ fs))) f fs
      (λ t. elim (same f.at n) as (λ b. told b (with_value v f) (entry_at n fs)) [ true ↦ refl | false ↦ refl ])
      (λ t. elim (same f.at n) as (λ b. told b f (entry_at n (put m v fs))) [ true ↦ refl | false ↦ put-attributes c n fs ])

  put-leads : (e : Entry) (d : List Entry) → Leads e d → Leads e (put m v d)
  put-leads e [] h = tt
  put-leads e (f ∷ fs) h = put_cases (Leads e) f fs (λ t. h) (λ t. h)

  put_lawful : (d : List Entry) (e : Entry) → entry_at m d ≡ Some e → e.shortest ≤ length v → length v ≤ e.longest → Lawful d → Lawful (put m v d)
  put_lawful [] e h low high l = tt
  put_lawful (f ∷ fs) e h low high (sound, leads, rest) =
      put_cases Lawful f fs
      (λ t.
      let own : Some f ≡ Some e = rw t at h in
      let is : f ≡ e = cc in
      let shortest = ap (λ (g : Entry). g.shortest) is in
      let longest = ap (λ (g : Entry). g.longest) is in
      (record { some = sound.some; ordered = sound.ordered; bounded = sound.bounded; long_enough = omega arith; short_enough = omega arith }, leads_valued v f fs leads, rest))
      (λ t. (sound, put-leads f fs leads, put_lawful fs e (rw t at h) low high rest))

-- what holds of a dictionary, and of it with the value set where that is allowed, holds after a commit
committed_cases : (P : List Entry → Type 0) (d : List Entry) (m : Multiplexor) (v : List ℕ) → (write_verdict d m v ≡ None → P (put m v d)) → P d → P (committed d m v)
committed_cases P d m v set kept = shown (write_verdict d m v) set
  where
    shown : (w : Option AbortCode) → (w ≡ None → P (put m v d)) → P (set_unless w m v d)
    shown None set = set refl
    shown (Some c) set = kept

pub value_set : ValueSet
value_set d m v h =
    let can = (write_decided d m v).0 h in
    ap (λ (w : Option AbortCode). value_at (set_unless w m v d) m) h ∙ put-value m v d can.entry can.there

pub refused_kept : RefusedKept
refused_kept d m v c h = ap (λ (w : Option AbortCode). set_unless w m v d) h

pub others_kept : OthersKept
others_kept d m v n apart = committed_cases (λ l. entry_at n l ≡ entry_at n d) d m v (λ h. put_others m v n apart d) refl

pub order_kept : OrderKept
order_kept d m v = committed_cases (λ l. multiplexors l ≡ multiplexors d) d m v (λ h. put_order m v d) refl

pub attributes_kept : AttributesKept
attributes_kept d m v n =
    committed_cases (λ l. attributes l n ≡ attributes d n) d m v
    (λ h.
    ap (λ (b : Bool). attributes_or (cond b NoSubindex NoObject) (entry_at n (put m v d))) (put-index m v n.index d)
    ∙ put-attributes m v (absence d n) n d)
    refl

pub lawful_kept : LawfulKept
lawful_kept d m v lawful =
    committed_cases Lawful d m v
    (λ h. let can = (write_decided d m v).0 h in put_lawful m v d can.entry can.there can.long_enough can.short_enough lawful)
    lawful
