-- Each field of a message is read as it was written.
use Rattle.std.proofs.Common.{◌≡◌, ℕ, ◌+◌, ◌-◌, ◌*◌, ◌/◌, ◌%◌, ◌^◌, ◌<◌, ◌≤◌, Bool, true, false, cond, eqb, List, [], ◌∷◌, ◌++◌, length, take, Some, None, sym, refl, ap, ◌∙◌, arith}
use native.Mathlib.Nat.{div-div-eq-div-mul}
use Rattle.wire.specs.declared.multiplexor.Multiplexor.{Multiplexor}
use Rattle.wire.specs.declared.abort_code.AbortCode.{AbortCode}
use Rattle.wire.specs.AbortCodes.{number, code}
use Rattle.wire.proofs.Codes as named
use Rattle.sdo.specs.Fields.{set_bit, kind, last_seven, multiplexor_bytes, multiplexor_in, abort_bytes, abort_code_in}
use Rattle.sdo.specs.FrameData.{padded}
use Rattle.sdo.specs.Transfers.{Transfer, Expedited, Segmented, transfer_bits, transfer_bytes, transfer_in}
use Rattle.sdo.specs.Fits.{Indexed, Carried, Proper}
use Rattle.sdo.specs.Segments.{toggle_bit, toggle_in, segment_bytes, data_in, last_in}
use Rattle.sdo.specs.declared.toggle.Toggle.{Toggle}
use Rattle.sdo.specs.declared.toggle.Toggle.TheVariants.{Zero, One}

pub two_bytes : (n : ℕ) → n < 2 ^ 16 → n % 256 + n / 256 % 256 * 256 ≡ n
two_bytes n h = omega arith

pub four_bytes : (n : ℕ) → n < 2 ^ 32 → n % 256 + n / 256 % 256 * 256 + n / 65536 % 256 * 65536 + n / 16777216 % 256 * 16777216 ≡ n
four_bytes n h =
    let twice : n / 256 / 256 ≡ n / 65536 = div-div-eq-div-mul n 256 256 in
    let thrice : n / 65536 / 256 ≡ n / 16777216 = div-div-eq-div-mul n 65536 256 in
    let low : n % 256 + n / 256 % 256 * 256 ≡ n % 65536 = omega arith in
    let half : n / 65536 < 2 ^ 16 = omega arith in
    let high : n / 65536 % 256 + n / 16777216 % 256 * 256 ≡ n / 65536 = rw (← thrice) (two_bytes (n / 65536) half) in
    omega arith

-- the two commands of a start differ in no bit that says how the value comes
same_start : (x : ℕ) (rest : List ℕ) → transfer_in ((0x40 + x) ∷ rest) ≡ transfer_in ((0x20 + x) ∷ rest)
same_start x rest =
    let expedited : (0x40 + x) / 2 % 2 ≡ (0x20 + x) / 2 % 2 = omega arith in
    let sized : (0x40 + x) % 2 ≡ (0x20 + x) % 2 = omega arith in
    let high : (0x40 + x) / 4 ≡ 16 + x / 4 = omega arith in
    let low : (0x20 + x) / 4 ≡ 8 + x / 4 = omega arith in
    let wrapped : (16 + x / 4) % 4 ≡ (8 + x / 4) % 4 = omega arith in
    let unused : (0x40 + x) / 4 % 4 ≡ (0x20 + x) / 4 % 4 = ap (λ q. q % 4) high ∙ wrapped ∙ ap (λ q. q % 4) (sym low) in
    simp (expedited, sized, unused)

pub four_bits : (t : Transfer) → Carried t → transfer_bits t < 16
four_bits (Expedited v) fits = omega arith
four_bits (Segmented None) fits = omega arith
four_bits (Segmented (Some size)) fits = omega arith

module _ (m : Multiplexor) (own : Indexed m) where
  pub multiplexor_back : (k : ℕ) (rest : List ℕ) → multiplexor_in (k ∷ (multiplexor_bytes m ++ rest)) ≡ m
  multiplexor_back k rest = ap (λ i. record { index = i; subindex = m.subindex }) (two_bytes m.index own)

  pub download_back : (t : Transfer) → Carried t → transfer_in ((0x20 + transfer_bits t) ∷ (multiplexor_bytes m ++ transfer_bytes t)) ≡ t
  download_back (Expedited []) fits = absurd (omega arith)
  download_back (Expedited (a ∷ [])) fits = refl
  download_back (Expedited (a ∷ b ∷ [])) fits = refl
  download_back (Expedited (a ∷ b ∷ c ∷ [])) fits = refl
  download_back (Expedited (a ∷ b ∷ c ∷ d ∷ [])) fits = refl
  download_back (Expedited (a ∷ b ∷ c ∷ d ∷ e ∷ v)) fits = absurd (omega arith)
  download_back (Segmented None) fits = refl
  download_back (Segmented (Some size)) fits = ap (λ n. Segmented (Some n)) (four_bytes size fits)

  pub upload_back : (t : Transfer) → Carried t → transfer_in ((0x40 + transfer_bits t) ∷ (multiplexor_bytes m ++ transfer_bytes t)) ≡ t
  upload_back t fits = same_start (transfer_bits t) (multiplexor_bytes m ++ transfer_bytes t) ∙ download_back t fits

pub code_back : (m : Multiplexor) (c : AbortCode) → Proper c → abort_code_in (abort_bytes m c) ≡ c
code_back m c proper = ap code (four_bytes (number c) proper) ∙ named.code_back c

-- what a segment's bytes begin with, whatever its command
front_back : (b0 : ℕ) (v : List ℕ) → length v ≤ 7 → take (length v) (last_seven (b0 ∷ padded 7 v)) ≡ v
front_back b0 [] fits = refl
front_back b0 (a ∷ []) fits = refl
front_back b0 (a ∷ b ∷ []) fits = refl
front_back b0 (a ∷ b ∷ c ∷ []) fits = refl
front_back b0 (a ∷ b ∷ c ∷ d ∷ []) fits = refl
front_back b0 (a ∷ b ∷ c ∷ d ∷ e ∷ []) fits = refl
front_back b0 (a ∷ b ∷ c ∷ d ∷ e ∷ f ∷ []) fits = refl
front_back b0 (a ∷ b ∷ c ∷ d ∷ e ∷ f ∷ g ∷ []) fits = refl
front_back b0 (a ∷ b ∷ c ∷ d ∷ e ∷ f ∷ g ∷ h ∷ v) fits = absurd (omega arith)

one_bit : (x : Bool) → set_bit x ≤ 1
one_bit true = omega arith
one_bit false = omega arith

toggle_one-bit : (t : Toggle) → toggle_bit t ≤ 1
toggle_one-bit Zero = omega arith
toggle_one-bit One = omega arith

toggle_of : (t : Toggle) (b0 low : ℕ) → b0 ≡ 16 * toggle_bit t + low → low < 16 → cond (eqb (b0 / 16 % 2) 1) One Zero ≡ t
toggle_of Zero b0 low e h = let z : b0 / 16 % 2 ≡ 0 = omega arith in ap (λ q. cond (eqb q 1) One Zero) z
toggle_of One b0 low e h = let z : b0 / 16 % 2 ≡ 1 = omega arith in ap (λ q. cond (eqb q 1) One Zero) z

last_of : (last : Bool) (b0 half : ℕ) → b0 ≡ 2 * half + set_bit last → eqb (b0 % 2) 1 ≡ last
last_of true b0 half e = let z : b0 % 2 ≡ 1 = omega arith in ap (λ q. eqb q 1) z
last_of false b0 half e = let z : b0 % 2 ≡ 0 = omega arith in ap (λ q. eqb q 1) z

module _ (t : Toggle) (v : List ℕ) (last : Bool) (fits : length v ≤ 7) where
  pub toggle_back : toggle_in (segment_bytes t v last) ≡ t
  toggle_back =
      let c = one_bit last in
      toggle_of t (16 * toggle_bit t + 2 * (7 - length v) + set_bit last) (2 * (7 - length v) + set_bit last) (omega arith) (omega arith)

  pub last_back : last_in (segment_bytes t v last) ≡ last
  last_back = last_of last (16 * toggle_bit t + 2 * (7 - length v) + set_bit last) (8 * toggle_bit t + (7 - length v)) (omega arith)

  pub data_back : data_in (segment_bytes t v last) ≡ v
  data_back =
      let b0 = 16 * toggle_bit t + 2 * (7 - length v) + set_bit last in
      let c = one_bit last in
      let half : b0 / 2 ≡ 8 * toggle_bit t + (7 - length v) = omega arith in
      let unused : (8 * toggle_bit t + (7 - length v)) % 8 ≡ 7 - length v = omega arith in
      let long : 7 - b0 / 2 % 8 ≡ length v = rw (half, unused) (omega arith) in
      ap (λ n. take n (last_seven (b0 ∷ padded 7 v))) long ∙ front_back b0 v fits

  pub segment_kind : kind (segment_bytes t v last) ≡ 0
  segment_kind =
      let c = one_bit last in
      let u = toggle_one-bit t in
      omega arith
