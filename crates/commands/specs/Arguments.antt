-- The command line of a program that reads its commands from standard input: it can only ask for help.
use Rattle.std.specs.Prelude.{ℕ, Bool, true, false, cond, ◌||◌, List, [], ◌∷◌, ◌++◌, codes, bytes_eq, Ok, Err, Result}

-- the words that ask for help
abbrev pub is_help : List ℕ → Bool
is_help w = bytes_eq w (codes "--help") || bytes_eq w (codes "-h")

-- what words ask for, or the first of them that is not understood; whether help was asked for before them
abbrev pub asked_after : Bool → List (List ℕ) → Result Bool (List ℕ)
asked_after before [] = Ok before
asked_after before (w ∷ ws) = cond (is_help w) (asked_after true ws) (Err w)

-- whether words ask for help
abbrev pub help_asked : List (List ℕ) → Result Bool (List ℕ)
help_asked = asked_after false

-- what is told of a word that is not understood
abbrev pub unknown_argument : List ℕ → List ℕ
unknown_argument w = codes "unknown argument " ++ (w ++ codes ", try --help")
