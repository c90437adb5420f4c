-- A small dictionary to try things on: a device type, a device name, a value of two bytes, and one of up to 1,024.
use Rattle.std.specs.Prelude.{ℕ, List, [], ◌∷◌}
use Rattle.dictionary.specs.declared.access.Access.{Access}
use Rattle.dictionary.specs.declared.access.Access.TheVariants.{ReadOnly, ReadWrite}
use Rattle.dictionary.specs.Entries.{Entry}
use Rattle.dictionary.specs.Plain.{plain}

-- an entry by its index and subindex, its access, its shortest and longest length, and its value
abbrev listed : ℕ → ℕ → Access → ℕ → ℕ → List ℕ → Entry
listed i s a short long v = plain (record { index = i; subindex = s }) (record { access = a; shortest = short; longest = long }) v

abbrev pub device_type : Entry
device_type = listed 0x1000 0 ReadOnly 4 4 (0x92 ∷ 0x01 ∷ 0x02 ∷ 0x00 ∷ [])

abbrev pub device_name : Entry
device_name = listed 0x1008 0 ReadOnly 1 16 (0x6c ∷ 0x6f ∷ 0x61 ∷ 0x64 ∷ 0x65 ∷ 0x72 ∷ [])

abbrev pub two_bytes : Entry
two_bytes = listed 0x2000 1 ReadWrite 2 2 (0x0a ∷ 0x00 ∷ [])

abbrev pub many_bytes : Entry
many_bytes = listed 0x2001 0 ReadWrite 1 1024 (0x00 ∷ [])

abbrev pub sample_entries : List Entry
sample_entries = device_type ∷ device_name ∷ two_bytes ∷ many_bytes ∷ []
