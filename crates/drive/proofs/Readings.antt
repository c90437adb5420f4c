-- Bytes and the numbers that they stand for, there and back.
use Rattle.std.proofs.Common.{◌≡◌, ℕ, ◌≤◌, refl, arith}
use Rattle.drive.specs.declared.mode.ModeOfOperation.{ModeOfOperation}
use Rattle.drive.specs.declared.mode.ModeOfOperation.TheVariants.{ProfilePosition, ProfileVelocity, Homing}
use Rattle.drive.specs.Bytes.{signed_in, signed_bytes, unsigned_in, unsigned_bytes}
use Rattle.drive.specs.Numbers.{mode_number}

-- a mode's number is the one that its byte stands for
pub mode_back : (m : ModeOfOperation) → signed_in (signed_bytes (mode_number m)) ≡ mode_number m
mode_back ProfilePosition = refl
mode_back ProfileVelocity = refl
mode_back Homing = refl

-- a number that is not too large is the one that its bytes stand for
pub unsigned_back : (n : ℕ) → n ≤ 1000000 → unsigned_in (unsigned_bytes n) ≡ n
unsigned_back n h = omega arith
