-- The numbers of the abort codes of CiA 301 that have a name here.
use Rattle.std.specs.Prelude.{ℕ, Bool, false, ◌||◌, List, [], ◌∷◌, ◌==◌}

abbrev pub numbers : List ℕ
numbers =
    0x0503_0000
    ∷ 0x0504_0000
    ∷ 0x0504_0001
    ∷ 0x0504_0002
    ∷ 0x0504_0003
    ∷ 0x0504_0004
    ∷ 0x0504_0005
    ∷ 0x0601_0001
    ∷ 0x0601_0002
    ∷ 0x0602_0000
    ∷ 0x0607_0010
    ∷ 0x0607_0012
    ∷ 0x0607_0013
    ∷ 0x0609_0011
    ∷ 0x0609_0030
    ∷ 0x0800_0000
    ∷ []

-- whether a number is one of some
abbrev pub is_among : List ℕ → ℕ → Bool
is_among [] n = false
is_among (k ∷ ks) n = n == k || is_among ks n

-- whether a code with a name has a number
unfoldable pub is_listed : ℕ → Bool
is_listed n = is_among numbers n
