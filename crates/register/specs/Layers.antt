-- The register of abort codes: which layer a code belongs to that came over the line. A code that says what a
-- dictionary has against a read or a write belongs to the dictionary, any other to the protocol.
use Rattle.std.specs.Prelude.{◌≡◌, ℕ, true, false, cond, List, [], ◌∷◌, map, ◌==◌}
use Rattle.wire.specs.declared.abort_code.AbortCode.{AbortCode}
use Rattle.wire.specs.declared.abort_code.AbortCode.TheVariants.{WriteOnly, ReadOnly, NoObject, LengthTooHigh, LengthTooLow, NoSubindex, InvalidValue}
use Rattle.register.specs.declared.layer.Layer.{Layer}
use Rattle.register.specs.declared.layer.Layer.TheVariants.{Master, Protocol, Dictionary}
use Rattle.wire.specs.AbortCodes.{number}
use Rattle.wire.specs.CodeNumbers.{is_among}

abbrev pub layer_number : Layer → ℕ
layer_number Master = 1
layer_number Protocol = 2
layer_number Dictionary = 3

-- the rows of the register: a code's number, and its layer
abbrev pub register : List (ℕ × Layer)
register =
    (0x0503_0000, Protocol)
    ∷ (0x0504_0000, Protocol)
    ∷ (0x0504_0001, Protocol)
    ∷ (0x0504_0002, Protocol)
    ∷ (0x0504_0003, Protocol)
    ∷ (0x0504_0004, Protocol)
    ∷ (0x0504_0005, Protocol)
    ∷ (0x0601_0001, Dictionary)
    ∷ (0x0601_0002, Dictionary)
    ∷ (0x0602_0000, Dictionary)
    ∷ (0x0607_0010, Protocol)
    ∷ (0x0607_0012, Dictionary)
    ∷ (0x0607_0013, Dictionary)
    ∷ (0x0609_0011, Dictionary)
    ∷ (0x0609_0030, Dictionary)
    ∷ []

-- the layer of the first of some rows with a number; where there is none, the protocol
abbrev pub layer_among : List (ℕ × Layer) → ℕ → Layer
layer_among [] n = Protocol
layer_among (r ∷ rs) n = cond (n == r.0) r.1 (layer_among rs n)

-- the layer of the code with a number
abbrev pub layer_of : ℕ → Layer
layer_of n = layer_among register n

-- what a dictionary says against a read or a write: there is no such object, no such subindex, it may not be written,
-- it may not be read, the value is too short, it is too long, it is not admitted
abbrev pub verdicts : List AbortCode
verdicts = NoObject ∷ NoSubindex ∷ ReadOnly ∷ WriteOnly ∷ LengthTooLow ∷ LengthTooHigh ∷ InvalidValue ∷ []

-- of all numbers just those that a dictionary's verdict can give are in layer 3, and all others in layer 2
abbrev pub LayersTold : Type 0
LayersTold = (n : ℕ) → (is_among (map number verdicts) n ≡ true → layer_of n ≡ Dictionary) × (is_among (map number verdicts) n ≡ false → layer_of n ≡ Protocol)
