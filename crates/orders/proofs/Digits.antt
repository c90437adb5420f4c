-- Digits, bytes and multiplexors read back from their written form.
use Rattle.std.proofs.Common.{◌≡◌, ℕ, ◌+◌, ◌*◌, ◌/◌, ◌%◌, ◌^◌, ◌<◌, ◌≤◌, Some, ap, arith}
use Rattle.std.proofs.lemmas.Bool.Decides.{nat_tests}
use Rattle.wire.specs.declared.multiplexor.Multiplexor.{Multiplexor}
use Rattle.orders.specs.Hex.{hex_value, byte_of, byte_in, multiplexor_in}
use Rattle.wire.specs.Texts.{hex_digit, hex_byte, multiplexor_text}

pub digit_above : (d : ℕ) → 48 ≤ hex_digit d
digit_above d = grind (arith, nat_tests)

pub digit_below : (d : ℕ) → d < 16 → hex_digit d ≤ 70
digit_below d h = grind (arith, nat_tests)

pub digit_read : (d : ℕ) → d < 16 → hex_value (hex_digit d) ≡ Some d
digit_read d h = grind (arith, nat_tests)

byte_digits : (b : ℕ) → b < 2 ^ 8 → byte_of (hex_value (hex_digit (b / 16))) (hex_value (hex_digit (b % 16))) ≡ Some b
byte_digits b h =
    let high = digit_read (b / 16) (omega arith) in
    let low = digit_read (b % 16) (omega arith) in
    let whole : b / 16 * 16 + b % 16 ≡ b = omega arith in
    rw (high, low) (ap Some whole)

pub byte_read : (b : ℕ) → b < 2 ^ 8 → byte_in (hex_byte b) ≡ Some b
byte_read b h = byte_digits b h

pub multiplexor-read : (m : Multiplexor) → m.index < 2 ^ 16 → m.subindex < 2 ^ 8 → multiplexor_in (multiplexor_text m) ≡ Some m
multiplexor-read m hi hs =
    let high = byte_digits (m.index / 256 % 256) (omega arith) in
    let low = byte_digits (m.index % 256) (omega arith) in
    let sub = byte_digits m.subindex hs in
    let whole : m.index / 256 % 256 * 256 + m.index % 256 ≡ m.index = omega arith in
    rw (high, low, sub) (ap (λ i. Some (record { index = i; subindex = m.subindex })) whole)
