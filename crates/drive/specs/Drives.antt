-- What a drive means: two entries of CiA 402, the mode of operation and the profile acceleration, each of which shows its
-- number as bytes and admits bytes by the number that they stand for.
use Rattle.std.specs.Prelude.{ℕ, List, [], ◌∷◌, ℤ, pos, refl}
use Rattle.std.proofs.Common.{lit≤}
use Rattle.wire.specs.declared.multiplexor.Multiplexor.{Multiplexor}
use Rattle.dictionary.specs.declared.access.Access.TheVariants.{ReadWrite}
use Rattle.dictionary.specs.Entries.{Entry, Lawful}
use Rattle.drive.specs.declared.drive.Drive.{Drive}
use Rattle.drive.specs.Numbers.{mode_number, admits_mode, admits_acceleration}
use Rattle.drive.specs.Bytes.{signed_in, signed_bytes, unsigned_in, unsigned_bytes}

abbrev pub mode_at : Multiplexor
mode_at = record { index = 0x6060; subindex = 0 }

abbrev pub acceleration_at : Multiplexor
acceleration_at = record { index = 0x6083; subindex = 0 }

-- one byte, signed
abbrev pub mode_entry : ℤ → Entry
mode_entry n = record { at = mode_at; access = ReadWrite; shortest = 1; longest = 1; value = signed_bytes n; admits = λ v. admits_mode (signed_in v) }

-- four bytes, unsigned
abbrev pub acceleration_entry : ℕ → Entry
acceleration_entry n = record { at = acceleration_at; access = ReadWrite; shortest = 4; longest = 4; value = unsigned_bytes n; admits = λ v. admits_acceleration (unsigned_in v) }

-- the entries by the two numbers
abbrev pub entries : ℤ → ℕ → List Entry
entries mode acceleration = mode_entry mode ∷ acceleration_entry acceleration ∷ []

-- a drive's numbers
abbrev pub mode_of : Drive → ℤ
mode_of d = mode_number d.mode_of_operation

abbrev pub acceleration_of : Drive → ℕ
acceleration_of d = d.profile_acceleration.number

abbrev pub drive_entries : Drive → List Entry
drive_entries d = entries (mode_of d) (acceleration_of d)

-- a new drive's: mode 1, acceleration 1,000
abbrev pub starting_entries : List Entry
starting_entries = entries (pos 1) 1000

pub drive_lawful : (d : Drive) → Lawful (drive_entries d)
drive_lawful d = (
  record { some = lit≤ tt; ordered = lit≤ tt; bounded = lit≤ tt; long_enough = lit≤ tt; short_enough = lit≤ tt },
  refl,
  (record { some = lit≤ tt; ordered = lit≤ tt; bounded = lit≤ tt; long_enough = lit≤ tt; short_enough = lit≤ tt }, tt, tt),
)
