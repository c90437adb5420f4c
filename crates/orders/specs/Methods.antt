-- How the words of an order name the method by which its value is written.
use Rattle.std.specs.Prelude.{ℕ, cond, List, Some, None, Option, codes, bytes_eq, length, unwrap_or}
use Rattle.master.specs.declared.method.Method.{Method}
use Rattle.master.specs.declared.method.Method.TheVariants.{Expedited, Segmented, Block}
use Rattle.master.specs.Methods.{fitting}

abbrev pub name_of : Method → List ℕ
name_of Expedited = codes "expedited"
name_of Segmented = codes "segmented"
name_of Block = codes "block"

-- the method that a word names
abbrev pub method_named : List ℕ → Option Method
method_named w = cond (bytes_eq w (name_of Expedited)) (Some Expedited) (cond (bytes_eq w (name_of Segmented)) (Some Segmented) (cond (bytes_eq w (name_of Block)) (Some Block) None))

-- the method for a value, where one is named or none
abbrev pub method_for : Option Method → List ℕ → Method
method_for named v = unwrap_or named (fitting (length v))
