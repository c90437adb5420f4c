-- What a device that is chosen at run time means, and what it starts with.
use Rattle.std.specs.Prelude.{List}
use Rattle.dictionary.specs.Entries.{Entry, Lawful}
use Rattle.dictionary.specs.Samples.{sample_entries}
use Rattle.dictionary.specs.Tables.{table_entries, table_lawful}
use Rattle.drive.specs.Drives.{drive_entries, drive_lawful, starting_entries}
use Rattle.commands.specs.declared.device.Device.{Device}
use Rattle.commands.specs.declared.device.Device.TheVariants as device
use Rattle.commands.specs.declared.device.DeviceKind.{DeviceKind}
use Rattle.commands.specs.declared.device.DeviceKind.TheVariants as kind

-- what its dictionary means
abbrev pub device_entries : Device → List Entry
device_entries (device.Sample table) = table_entries table
device_entries (device.Drive drive) = drive_entries drive

pub device_lawful : (d : Device) → Lawful (device_entries d)
device_lawful (device.Sample table) = table_lawful table
device_lawful (device.Drive drive) = drive_lawful drive

abbrev pub starting : DeviceKind → List Entry
starting kind.Sample = sample_entries
starting kind.Drive = starting_entries
