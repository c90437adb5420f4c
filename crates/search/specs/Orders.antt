-- Orders of keys, as tests: whether one key stands before another.
use Rattle.std.specs.Prelude.{◌≡◌, Bool, true, false, not, ◌&&◌}
use Rattle.std.specs.declared.cmp.Ordering.{Ordering}
use Rattle.std.specs.Ordering.{is_lt}

-- a key stands before another where it compares as less
abbrev pub earlier : {K : Type 0} → (K → K → Ordering) → K → K → Bool
earlier cmp a b = is_lt (cmp a b)

-- no key stands before itself
abbrev pub Irreflexive : {K : Type 0} → (K → K → Bool) → Type 0
Irreflexive {K} before = (a : K) → before a a ≡ false

-- what stands before a key stands before all that follow it
abbrev pub Transitive : {K : Type 0} → (K → K → Bool) → Type 0
Transitive {K} before = (a b c : K) → before a b ≡ true → before b c ≡ true → before a c ≡ true

-- of two keys one stands before the other, or they are equal
abbrev pub Connected : {K : Type 0} → (K → K → Bool) → Type 0
Connected {K} before = (a b : K) → before a b ≡ false → before b a ≡ false → a ≡ b

-- neither of two keys stands before the other
abbrev pub same : {K : Type 0} → (K → K → Bool) → K → K → Bool
same before a b = not (before a b) && not (before b a)
