-- An identifier is known by its number, and a frame by that of its identifier and its bytes.
use Rattle.std.proofs.Common.{◌≡◌, ℕ, ◌<◌, List}
use mathlib.Core.HLevel.{is_prop→PathP}
use native.Mathlib.Bridge.{le_prop}
use Rattle.wire.specs.declared.frame.Frame.{Frame}
use Rattle.wire.specs.declared.identifier.Identifier.{Identifier}

pub same_identifier : (x y : Identifier) → x.number ≡ y.number → x ≡ y
same_identifier x y e = λ i. record { number = e i; short = is_prop→PathP (λ j. e j < 2048) (λ j. le_prop) x.short y.short i }

abbrev frame : Identifier → List ℕ → Frame
frame i bytes = record { identifier = i; bytes = bytes }

pub framed : (i j : Identifier) (a b : List ℕ) → i.number ≡ j.number → a ≡ b → frame i a ≡ frame j b
framed i j a b e f = let same = same_identifier i j e in cc
