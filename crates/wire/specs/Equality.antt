-- What == answers of frames and of what they are made of: whether they are the same.
use Rattle.std.specs.Prelude.{◌≡◌, Bool, Decides}

-- a test answers whether two say the same
abbrev pub Tells : {T S : Type 0} → (T → S) → (T → T → Bool) → Type 0
Tells {T} said eq = (a b : T) → Decides (eq a b) (said a ≡ said b)

-- a test answers whether two are the same
abbrev pub TellsApart : {T : Type 0} → (T → T → Bool) → Type 0
TellsApart {T} eq = (a b : T) → Decides (eq a b) (a ≡ b)
