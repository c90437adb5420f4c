-- Frames, and abort codes, are equal exactly where they say the same.
use Rattle.std.proofs.Common.{◌≡◌, ◌&&◌, eqb, ap, arith}
use Rattle.std.specs.Prelude.{Decides}
use Rattle.std.specs.Str.{bytes_eq}
use Rattle.std.proofs.lemmas.Bool.Decides.{Decides-eqb, Decides-and, Decides-like}
use Rattle.std.proofs.lemmas.Slice.Eq.{bytes_eq-Decides}
use Rattle.wire.specs.declared.abort_code.AbortCode.{AbortCode}
use Rattle.wire.specs.declared.frame.Frame.{Frame}
use Rattle.wire.specs.contracts.abort_code.AbortCodePartialEq.TheImpl.{ghosts as codes}
use Rattle.wire.proofs.Codes.{same_code}
use Rattle.wire.proofs.Identifiers.{framed}

pub same_frames : (a b : Frame) → Decides (eqb a.identifier.number b.identifier.number && bytes_eq a.bytes b.bytes) (a ≡ b)
same_frames a b =
    let numbers = Decides-eqb a.identifier.number b.identifier.number in
    let bytes = bytes_eq-Decides a.bytes b.bytes in
    Decides-like (eqb a.identifier.number b.identifier.number && bytes_eq a.bytes b.bytes)
    (λ e. framed a.identifier b.identifier a.bytes b.bytes e.0 e.1)
    (λ e. (ap (λ f. f.identifier.number) e, ap (λ f. f.bytes) e))
    (Decides-and (eqb a.identifier.number b.identifier.number) (bytes_eq a.bytes b.bytes) numbers bytes)

pub same_codes : (a b : AbortCode) → Decides (codes.eq a b) (a ≡ b)
same_codes a b = let one = same_code a b in grind (arith, one)
