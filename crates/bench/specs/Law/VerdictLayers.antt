-- To which layer the codes of verdicts belong, in the register of abort codes.
use Rattle.std.specs.Prelude.{◌≡◌, ℕ, List, Some}
use Rattle.wire.specs.declared.abort_code.AbortCode.{AbortCode}
use Rattle.register.specs.declared.layer.Layer.TheVariants.{Dictionary}
use Rattle.wire.specs.declared.multiplexor.Multiplexor.{Multiplexor}
use Rattle.wire.specs.AbortCodes.{number}
use Rattle.register.specs.Layers.{layer_of}
use Rattle.dictionary.specs.Entries.{Entry}
use Rattle.dictionary.specs.Verdicts.{read_verdict, write_verdict}

-- what speaks against a read is told by a code of the dictionary's layer
abbrev pub ReadLayer : Type 0
ReadLayer = (d : List Entry) (m : Multiplexor) (c : AbortCode) → read_verdict d m ≡ Some c → layer_of (number c) ≡ Dictionary

-- and so is what speaks against a write
abbrev pub WriteLayer : Type 0
WriteLayer = (d : List Entry) (m : Multiplexor) (v : List ℕ) (c : AbortCode) → write_verdict d m v ≡ Some c → layer_of (number c) ≡ Dictionary
