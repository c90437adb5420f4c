-- The value of an order, word by word.
use Rattle.std.proofs.Common.{◌≡◌, ℕ, ◌+◌, ◌<◌, List, [], ◌∷◌, ◌++◌, length, Some, None, Ok, Err, Result, refl, sym, ap, ◌∙◌, Option, arith}
use denote.Ref.{Bor}
use Rattle.std.proofs.lemmas.Bool.{eq-eqb, ne_eqb}
use Rattle.std.proofs.lemmas.Iterator.{YieldsList}
use Rattle.orders.specs.declared.fault.Fault.{Fault}
use Rattle.orders.specs.declared.fault.Fault.TheVariants.{NotByte, TooManyBytes}
use Rattle.orders.specs.Hex.{byte_in}
use Rattle.orders.proofs.Comes.{comes_next, comes_none}
use Rattle.orders.specs.Lines.{longest, bytes_in, value_in, with_byte, and_then}

-- the value of which some bytes are read, and words are left
abbrev pub value_after : List ℕ → List (List ℕ) → Result (List ℕ) Fault
value_after [] ws = value_in ws
value_after (b ∷ bs) ws = bytes_in (b ∷ bs) ws

-- where a word is left, it is the next byte's
next : (bs w : List ℕ) (ws : List (List ℕ)) → value_after bs (w ∷ ws) ≡ and_then (with_byte bs (byte_in w)) (λ more. bytes_in more ws)
next [] w ws = refl
next (b ∷ bs) w ws = refl

pushed : (bs : List ℕ) (b : ℕ) (ws : List (List ℕ)) → bytes_in (bs ++ b ∷ []) ws ≡ value_after (bs ++ b ∷ []) ws
pushed [] b ws = refl
pushed (a ∷ bs) b ws = refl

module _ (bs w : List ℕ) (ws : List (List ℕ)) where
  pub value-bad : byte_in w ≡ None → value_after bs (w ∷ ws) ≡ Err (NotByte (length bs + 1))
  value-bad bad = next bs w ws ∙ rw bad

  pub value-full : (b : ℕ) → byte_in w ≡ Some b → length bs ≡ longest → value_after bs (w ∷ ws) ≡ Err TooManyBytes
  value-full b good full = next bs w ws ∙ rw (good, eq-eqb _ _ full)

  pub value-more : (b : ℕ) → byte_in w ≡ Some b → (length bs ≡ longest → ⊥) → value_after bs (w ∷ ws) ≡ value_after (bs ++ b ∷ []) ws
  value-more b good room = next bs w ws ∙ rw (good, ne_eqb _ _ room) (pushed bs b ws)

pub value_all : (bs : List ℕ) → 0 < length bs → value_after bs [] ≡ Ok bs
value_all [] some = absurd (omega arith)
value_all (b ∷ bs) some = refl

-- an iterator from which words are to come that, behind some bytes, write a value
pub record Left {S : Type 0} (steps : S → Option (Bor (List ℕ)) → S → Type 0) (s : S) (bytes : List ℕ) (v : Result (List ℕ) Fault) : Type 0 where
  pub words : List (List ℕ)
  pub come : YieldsList steps (λ w. w.now) s words
  pub write : value_after bytes words ≡ v

module _ {S : Type 0} {steps : S → Option (Bor (List ℕ)) → S → Type 0} {s t : S} {bytes : List ℕ} {v : Result (List ℕ) Fault} (left : Left steps s bytes v) where
  -- the next word is the first that is left
  next_left : {x : Bor (List ℕ)} → steps s (Some x) t → (rest : List (List ℕ)) × YieldsList steps (λ w. w.now) t rest × (v ≡ value_after bytes (x.now ∷ rest))
  next_left {x} step = let next = comes_next left.words left.come step in (next.rest, next.come, sym left.write ∙ ap (value_after bytes) next.is)

  pub left_bad : {x : Bor (List ℕ)} → steps s (Some x) t → byte_in x.now ≡ None → v ≡ Err (NotByte (length bytes + 1))
  left_bad step bad = let next = next_left step in next.2 ∙ value-bad _ _ _ bad

  pub left_full : {x : Bor (List ℕ)} {b : ℕ} → steps s (Some x) t → byte_in x.now ≡ Some b → length bytes ≡ longest → v ≡ Err TooManyBytes
  left_full step good full = let next = next_left step in next.2 ∙ value-full _ _ _ _ good full

  pub left_more : {x : Bor (List ℕ)} {b : ℕ} → steps s (Some x) t → byte_in x.now ≡ Some b → (length bytes ≡ longest → ⊥) → Left steps t (bytes ++ b ∷ []) v
  left_more step good room = let next = next_left step in record { words = next.0; come = next.1; write = sym (next.2 ∙ value-more _ _ _ _ good room) }

  pub left_none : steps s None t → v ≡ value_after bytes []
  left_none step = sym left.write ∙ ap (value_after bytes) (comes_none left.words left.come step)
