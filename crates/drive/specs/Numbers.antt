-- The numbers of a drive, and which of them it admits.
-- A signed number is pos n, which is n, or negsuc n, which is -1 - n.
use Rattle.std.specs.Prelude.{◌≡◌, ℕ, Bool, false, cond, ◌&&◌, ◌||◌, List, length, ℤ, pos, negsuc, Some, None, Option, Result, IfOk, ◌==◌, nat_le}
use Rattle.std.specs.Option.{ok_or}
use Rattle.std.specs.Result.{result_map_both}
use Rattle.wire.specs.declared.abort_code.AbortCode.{AbortCode}
use Rattle.wire.specs.declared.abort_code.AbortCode.TheVariants.{InvalidValue}
use Rattle.drive.specs.declared.mode.ModeOfOperation.{ModeOfOperation}
use Rattle.drive.specs.declared.mode.ModeOfOperation.TheVariants.{ProfilePosition, ProfileVelocity, Homing}

abbrev pub mode_number : ModeOfOperation → ℤ
mode_number ProfilePosition = pos 1
mode_number ProfileVelocity = pos 3
mode_number Homing = pos 6

-- a mode of operation is 1, 3 or 6
abbrev pub admits_mode : ℤ → Bool
admits_mode (pos n) = n == 1 || (n == 3 || n == 6)
admits_mode (negsuc n) = false

-- a profile acceleration is 1 to 1,000,000
abbrev pub admits_acceleration : ℕ → Bool
admits_acceleration n = nat_le 1 n && nat_le n 1000000

-- a number, where it is admitted
abbrev pub if_admitted : {N : Type 0} → (N → Bool) → N → Option N
if_admitted admits n = cond (admits n) (Some n) None

-- what has a number is made of it where the number is admitted; else the value is invalid
abbrev pub Made : {X N : Type 0} → (X → N) → (N → Bool) → N → Result X AbortCode → Type 0
Made number admits n r = result_map_both number (λ c. c) r ≡ ok_or (if_admitted admits n) InvalidValue

-- it is read from as many bytes as it shows, where the number that they stand for is admitted; it then shows those bytes
pub record OfBytes {X N : Type 0} (number : X → N) (admits : N → Bool) (stands_for : List ℕ → N) (shows : N → List ℕ) (n : ℕ) (v : List ℕ) (r : Result X AbortCode) : Type 0 where
  pub answer : Made number (λ k. length v == n && admits k) (stands_for v) r
  pub shown : IfOk r (λ x. shows (number x) ≡ v)
