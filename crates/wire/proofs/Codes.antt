-- Abort codes and their numbers fit together.
use mathlib.Core.Bool.{Bool-set}
use Rattle.std.proofs.Common.{◌≡◌, ℕ, Bool, true, false, eqb, List, [], ◌∷◌, map, sym, refl, ap, ◌∙◌, inl, inr, eqb-true}
use Rattle.std.proofs.lemmas.Bool.{cases_Bool, both_ways}
use Rattle.wire.specs.declared.abort_code.AbortCode.{AbortCode}
use Rattle.wire.specs.declared.abort_code.AbortCode.TheVariants.{ToggleNotAlternated, TimedOut, UnknownCommand, InvalidBlockSize, InvalidSequenceNumber, CrcError, OutOfMemory, WriteOnly, ReadOnly, NoObject, LengthMismatch, LengthTooHigh, LengthTooLow, NoSubindex, InvalidValue, GeneralError, Other}
use Rattle.wire.specs.declared.other_code.OtherCode.{OtherCode}
use Rattle.wire.specs.AbortCodes.{number, rows, code_among, code_by, code, CodesReadBack}
use Rattle.wire.specs.CodeNumbers.{is_among, is_listed}

among_back : (cs : List AbortCode) (other : AbortCode) (n : ℕ) → is_among (map number cs) n ≡ true → number (code_among cs other n) ≡ n
among_back [] other n h = absurd (both_ways false refl h)
among_back (c ∷ cs) other n h =
    elim (cases_Bool (eqb n (number c))) [
      | inl same ↦ rw same (sym (eqb-true n (number c) same))
      | inr apart ↦ rw apart (among_back cs other n (rw apart at h))
    ]

number_by : (n : ℕ) (b : Bool) (h : is_listed n ≡ b) → number (code_by n b h) ≡ n
unfolding is_listed
number_by n true h = among_back rows GeneralError n h
number_by n false h = refl

abbrev other : (n : ℕ) → is_listed n ≡ false → OtherCode
other n h = record { number = n; unlisted = h }

other_by : (n : ℕ) (b : Bool) (e : is_listed n ≡ b) (h : is_listed n ≡ false) → code_by n b e ≡ Other (other n h)
other_by n true e h = absurd (both_ways (is_listed n) h e)
other_by n false e h = ap (λ (f : is_listed n ≡ false). Other (other n f)) (Bool-set (is_listed n) false e h)

-- the code of a number that is not listed
pub code_other : (o : OtherCode) → code o.number ≡ Other o
unfolding code
code_other o = other_by o.number (is_listed o.number) refl o.unlisted

-- a code without a name: its number is not listed, and it is the code of that number
pub other_coded : (o : OtherCode) → (is_listed o.number ≡ false) × (Other o ≡ code o.number)
other_coded o = (o.unlisted, sym (code_other o))

pub code_back : (c : AbortCode) → code (number c) ≡ c
unfolding code is_listed
code_back ToggleNotAlternated = refl
code_back TimedOut = refl
code_back UnknownCommand = refl
code_back InvalidBlockSize = refl
code_back InvalidSequenceNumber = refl
code_back CrcError = refl
code_back OutOfMemory = refl
code_back WriteOnly = refl
code_back ReadOnly = refl
code_back NoObject = refl
code_back LengthMismatch = refl
code_back LengthTooHigh = refl
code_back LengthTooLow = refl
code_back NoSubindex = refl
code_back InvalidValue = refl
code_back GeneralError = refl
code_back (Other o) = code_other o

pub codes_read_back : CodesReadBack
unfolding code
codes_read_back = (λ n. number_by n (is_listed n) refl, code_back)

-- a code is known by its number
pub same_code : (a b : AbortCode) → number a ≡ number b → a ≡ b
same_code a b e = sym (code_back a) ∙ ap code e ∙ code_back b
