-- What follows for every drive, in the words of one who sets its numbers: which bytes v it takes, and what it holds then.
-- In the laws of setting, d is a drive before a commit and e the one after it.
use Rattle.std.specs.Prelude.{◌≡◌, ℕ, ◌≤◌, ◌⊎◌, List, length, pos, None}
use Rattle.dictionary.specs.Commits.{committed}
use Rattle.dictionary.specs.Verdicts.{write_verdict}
use Rattle.drive.specs.declared.drive.Drive.{Drive}
use Rattle.drive.specs.Bytes.{signed_in, unsigned_in}
use Rattle.drive.specs.Drives.{mode_at, acceleration_at, mode_of, acceleration_of, drive_entries}

-- one byte that stands for profile position, profile velocity or homing
pub record Mode (v : List ℕ) : Type 0 where
  pub one : length v ≡ 1
  pub number : (signed_in v ≡ pos 1) ⊎ ((signed_in v ≡ pos 3) ⊎ (signed_in v ≡ pos 6))

-- four bytes that stand for a number from 1 to 1,000,000
pub record Acceleration (v : List ℕ) : Type 0 where
  pub four : length v ≡ 4
  pub low : 1 ≤ unsigned_in v
  pub high : unsigned_in v ≤ 1000000

-- nothing speaks against bytes for the mode exactly where they are one
abbrev pub ModeTaken : Type 0
ModeTaken = (d : Drive) (v : List ℕ) → (write_verdict (drive_entries d) mode_at v ≡ None → Mode v) × (Mode v → write_verdict (drive_entries d) mode_at v ≡ None)

-- nor against bytes for the acceleration
abbrev pub AccelerationTaken : Type 0
AccelerationTaken = (d : Drive) (v : List ℕ) → (write_verdict (drive_entries d) acceleration_at v ≡ None → Acceleration v) × (Acceleration v → write_verdict (drive_entries d) acceleration_at v ≡ None)

-- after a mode was written the drive's mode is the number that was written, and its acceleration is as before
abbrev pub ModeSet : Type 0
ModeSet = (d e : Drive) (v : List ℕ) → write_verdict (drive_entries d) mode_at v ≡ None → drive_entries e ≡ committed (drive_entries d) mode_at v → (mode_of e ≡ signed_in v) × (acceleration_of e ≡ acceleration_of d)

-- and the other way round
abbrev pub AccelerationSet : Type 0
AccelerationSet = (d e : Drive) (v : List ℕ) → write_verdict (drive_entries d) acceleration_at v ≡ None → drive_entries e ≡ committed (drive_entries d) acceleration_at v → (acceleration_of e ≡ unsigned_in v) × (mode_of e ≡ mode_of d)
