-- The names of lines and devices.
use Rattle.std.specs.Prelude.{ℕ, cond, List, Some, None, Option, codes, bytes_eq}
use Rattle.commands.specs.declared.device.DeviceKind.{DeviceKind}
use Rattle.commands.specs.declared.device.DeviceKind.TheVariants.{Sample, Drive}
use Rattle.commands.specs.declared.line_order.LineKind.{LineKind}
use Rattle.commands.specs.declared.line_order.LineKind.TheVariants.{Memory, Mailbox}

abbrev pub line_name : LineKind → List ℕ
line_name Memory = codes "memory"
line_name Mailbox = codes "mailbox"

-- the line that a word names
abbrev pub line_named : List ℕ → Option LineKind
line_named w = cond (bytes_eq w (line_name Memory)) (Some Memory) (cond (bytes_eq w (line_name Mailbox)) (Some Mailbox) None)

abbrev pub device_name : DeviceKind → List ℕ
device_name Sample = codes "sample"
device_name Drive = codes "drive"

-- the device that a word names
abbrev pub device_named : List ℕ → Option DeviceKind
device_named w = cond (bytes_eq w (device_name Sample)) (Some Sample) (cond (bytes_eq w (device_name Drive)) (Some Drive) None)
