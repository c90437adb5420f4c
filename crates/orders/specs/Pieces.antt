-- How a text parts: into lines at each line end (10), and a line into words at blanks (32) and tabs (9).
use Rattle.std.specs.Prelude.{ℕ, Bool, cond, not, ◌||◌, List, [], ◌∷◌, length, filter, ◌==◌}
use Rattle.std.specs.List.{onto_first}

-- a byte that parts two words
abbrev pub is_blank : ℕ → Bool
is_blank b = b == 32 || b == 9

-- a byte that parts two lines
abbrev pub is_line_end : ℕ → Bool
is_line_end b = b == 10

-- the pieces that separators end; the last piece needs none
abbrev pub pieces : (ℕ → Bool) → List ℕ → List (List ℕ)
pieces parts [] = []
pieces parts (b ∷ bs) = cond (parts b) ([] ∷ pieces parts bs) (onto_first b (pieces parts bs))

-- the pieces that are not empty
abbrev pub not_empty : List (List ℕ) → List (List ℕ)
not_empty ps = filter (λ p. not (length p == 0)) ps

abbrev pub lines : List ℕ → List (List ℕ)
lines text = pieces is_line_end text

abbrev pub words : List ℕ → List (List ℕ)
words line = not_empty (pieces is_blank line)
