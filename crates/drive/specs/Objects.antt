-- The two objects of a drive by name: where each stands, and its access and lengths; and what it means that none is there.
use Rattle.std.specs.Prelude.{◌≡◌, None}
use Rattle.wire.specs.declared.multiplexor.Multiplexor.{Multiplexor}
use Rattle.wire.specs.declared.abort_code.AbortCode.{AbortCode}
use Rattle.dictionary.specs.declared.access.Access.TheVariants.{ReadWrite}
use Rattle.dictionary.specs.declared.attributes.Attributes.{Attributes}
use Rattle.dictionary.specs.Entries.{entry_at}
use Rattle.dictionary.specs.Questions.{absence}
use Rattle.drive.specs.declared.drive.Drive.{Drive}
use Rattle.drive.specs.declared.object.Object.{Object}
use Rattle.drive.specs.declared.object.Object.TheVariants.{ModeOfOperation, ProfileAcceleration}
use Rattle.drive.specs.Drives.{mode_at, acceleration_at, drive_entries}

abbrev pub object_at : Object → Multiplexor
object_at ModeOfOperation = mode_at
object_at ProfileAcceleration = acceleration_at

abbrev pub object_attributes : Object → Attributes
object_attributes ModeOfOperation = record { access = ReadWrite; shortest = 1; longest = 1 }
object_attributes ProfileAcceleration = record { access = ReadWrite; shortest = 4; longest = 4 }

-- no drive has an entry at a multiplexor, and a code says why
abbrev pub Absent : Multiplexor → AbortCode → Type 0
Absent m c = (d : Drive) → (entry_at m (drive_entries d) ≡ None) × (c ≡ absence (drive_entries d) m)
