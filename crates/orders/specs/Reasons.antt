-- What a fitter is told of a line that is no order.
use Rattle.std.specs.Prelude.{ℕ, List, ◌++◌, codes, decimal}
use Rattle.master.specs.Methods.{most_expedited}
use Rattle.orders.specs.declared.bad_line.BadLine.{BadLine}
use Rattle.orders.specs.declared.fault.Fault.{Fault}
use Rattle.orders.specs.declared.fault.Fault.TheVariants.{NotMultiplexor, NoBytes, NotByte, TooManyBytes, NotExpedited, OutOfMemory}
use Rattle.orders.specs.Lines.{longest}

abbrev pub reason : Fault → List ℕ
reason NotMultiplexor = codes "no IIII:SS, an index of four and a subindex of two hex digits, at the start or behind expedited, segmented or block"
reason NoBytes = codes "no bytes follow the index and subindex"
reason (NotByte place) = codes "byte " ++ (decimal place ++ codes " is not two hex digits")
reason TooManyBytes = codes "more than " ++ (decimal longest ++ codes " bytes follow the index and subindex")
reason NotExpedited = codes "more than " ++ (decimal most_expedited ++ codes " bytes do not go expedited")
reason OutOfMemory = codes "out of memory"

abbrev pub report : BadLine → List ℕ
report b = codes "line " ++ (decimal b.line ++ (codes ": " ++ reason b.fault))
