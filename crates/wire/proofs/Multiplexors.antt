-- Multiplexors are equal or one stands before the other, and what stands before stands apart.
use Rattle.std.proofs.Common.{◌≡◌, ℕ, Bool, true, false, eqb, ap, ◌∙◌, rules, arith}
use Rattle.std.proofs.lemmas.Bool.{and_parts, eqb-true}
use Rattle.std.proofs.lemmas.Bool.Decides.{nat_tests}
use Rattle.std.proofs.lemmas.Grind.{common_steps}
use Rattle.std.specs.Ordering.{is_lt, nat_cmp, ordering_then}
use Rattle.wire.specs.declared.multiplexor.Multiplexor.{Multiplexor}
use Rattle.wire.specs.Multiplexors.{same, before}

pub same_equal : (a b : Multiplexor) → same a b ≡ true → a ≡ b
same_equal a b h =
    let p = and_parts (eqb a.index b.index) _ h in
    let i = eqb-true _ _ p.0 in
    let s = eqb-true _ _ p.1 in
    ap (λ (n : ℕ). record { index = n; subindex = a.subindex }) i ∙ ap (λ (n : ℕ). record { index = b.index; subindex = n }) s

pub same_itself : (a : Multiplexor) → same a a ≡ true
same_itself a = grind (arith, nat_tests)

pub before-before : (a b c : Multiplexor) → before a b ≡ true → before b c ≡ true → before a c ≡ true
before-before a b c h k = grind (arith, nat_tests)

pub before_apart : (a b : Multiplexor) → before a b ≡ true → same a b ≡ false
before_apart a b h = grind (arith, nat_tests)

pub before_back : (a b : Multiplexor) → before a b ≡ true → before b a ≡ false
before_back a b h = grind (arith, nat_tests)

-- no multiplexor stands before one that is the same, and what stands behind the one stands behind the other
pub not_itself : (a b : Multiplexor) → same a b ≡ true → before b a ≡ false
not_itself a b h = grind (arith, nat_tests)

pub above_same : (a b c : Multiplexor) → same a c ≡ true → before a b ≡ true → before c b ≡ true
above_same a b c h k = grind (arith, nat_tests)

-- of two that stand apart, the one that does not stand before the other stands behind it
pub behind : (a b : Multiplexor) → before a b ≡ false → same a b ≡ false → before b a ≡ true
behind a b h apart = grind (arith, nat_tests)

-- whether a multiplexor compares as less than another
abbrev pub less : Multiplexor → Multiplexor → Bool
less a b = is_lt (ordering_then (nat_cmp a.index b.index) (nat_cmp a.subindex b.subindex))

-- the order by the fields is the one by index, then by subindex
pub by_fields : (a b : Multiplexor) → less a b ≡ before a b
by_fields a b = grind (arith, common_steps)

-- of two different ones one compares as less than the other
pub connected : (a b : Multiplexor) → less a b ≡ false → less b a ≡ false → a ≡ b
connected = search rules
