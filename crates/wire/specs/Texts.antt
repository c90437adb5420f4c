-- Numbers as text: hexadecimal digits in capitals.
use Rattle.std.specs.Prelude.{ℕ, ◌+◌, ◌/◌, ◌%◌, cond, List, [], ◌∷◌, ◌++◌, codes, nat_lt}
use Rattle.wire.specs.AbortCodes.{number}
use Rattle.wire.specs.declared.abort_code.AbortCode.{AbortCode}
use Rattle.wire.specs.declared.frame.Frame.{Frame}
use Rattle.wire.specs.declared.identifier.Identifier.{Identifier}
use Rattle.wire.specs.declared.multiplexor.Multiplexor.{Multiplexor}

abbrev pub hex_digit : ℕ → ℕ
hex_digit n = cond (nat_lt n 10) (48 + n) (55 + n)

abbrev pub hex_byte : ℕ → List ℕ
hex_byte n = hex_digit (n / 16) ∷ hex_digit (n % 16) ∷ []

-- index and subindex, as 2000:01
abbrev pub multiplexor_text : Multiplexor → List ℕ
multiplexor_text m = hex_byte (m.index / 256 % 256) ++ (hex_byte (m.index % 256) ++ (codes ":" ++ hex_byte m.subindex))

-- three digits, as 605
abbrev pub identifier_text : Identifier → List ℕ
identifier_text i = hex_digit (i.number / 256) ∷ hex_byte (i.number % 256)

abbrev pub bytes_text : List ℕ → List ℕ
bytes_text [] = []
bytes_text (x ∷ xs) = hex_byte x ++ bytes_text xs

-- as candump writes a frame: 605#2B002001E8030000
abbrev pub frame_text : Frame → List ℕ
frame_text f = identifier_text f.identifier ++ (codes "#" ++ bytes_text f.bytes)

-- a code's number in two groups, as 0602 0000
abbrev pub code_text : AbortCode → List ℕ
code_text c = hex_byte (number c / 16777216 % 256) ++ (hex_byte (number c / 65536 % 256) ++ (codes " " ++ (hex_byte (number c / 256 % 256) ++ hex_byte (number c % 256))))
