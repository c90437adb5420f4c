-- What is printed of a line that is no command, of how a transfer began and ended, and of an entry.
use Rattle.std.specs.Prelude.{ℕ, List, [], ◌++◌, codes, decimal, take, Some, None, Option, Ok, Err, Result}
use Rattle.wire.specs.declared.multiplexor.Multiplexor.{Multiplexor}
use Rattle.wire.specs.Texts.{multiplexor_text, code_text}
use Rattle.dictionary.specs.declared.attributes.Attributes.{Attributes}
use Rattle.dictionary.specs.Accesses.{number}
use Rattle.register.specs.Layers.{layer_number}
use Rattle.master.specs.declared.refusal.BeginRefusal.{BeginRefusal}
use Rattle.master.specs.Refusals.{begin_number}
use Rattle.report.specs.declared.refusal.SettleRefusal.{SettleRefusal}
use Rattle.report.specs.Refusals.{settle_number}
use Rattle.report.specs.declared.report.Failure.{Failure}
use Rattle.report.specs.declared.report.Outcome.{Outcome}
use Rattle.report.specs.declared.report.Outcome.TheVariants.{Written, Read, Unwritten, Undecided, Unread}
use Rattle.report.specs.declared.report.Report.{Report}
use Rattle.orders.specs.Written.{bytes_alone}

abbrev pub not_understood : ℕ → List ℕ
not_understood line = codes "line " ++ (decimal line ++ codes ": not understood")

abbrev pub begun : Result ℕ BeginRefusal → List ℕ
begun (Ok ticket) = codes "begin: ticket " ++ decimal ticket
begun (Err refusal) = codes "begin: refused " ++ decimal (begin_number refusal)

abbrev pub failure_text : Failure → List ℕ
failure_text f = multiplexor_text f.multiplexor ++ (codes " " ++ (code_text f.code ++ (codes " segment " ++ (decimal f.segment ++ (codes " layer " ++ decimal (layer_number f.layer))))))

-- the bytes of a read are the front of the buffer
abbrev pub outcome_text : Outcome → List ℕ → List ℕ
outcome_text Written buffer = codes "Written"
outcome_text (Read length) buffer = codes "Read " ++ (decimal length ++ (codes ": " ++ bytes_alone (take length buffer)))
outcome_text (Unwritten failure) buffer = codes "Unwritten " ++ failure_text failure
outcome_text (Undecided failure) buffer = codes "Undecided " ++ failure_text failure
outcome_text (Unread failure) buffer = codes "Unread " ++ failure_text failure

abbrev pub settled : Result Report SettleRefusal → List ℕ → List ℕ
settled (Ok report) buffer = codes "settle: " ++ outcome_text report.outcome buffer
settled (Err refusal) buffer = codes "settle: refused " ++ decimal (settle_number refusal)

-- the value of an entry, where it can be read
abbrev pub value_text : Option (List ℕ) → List ℕ
value_text None = []
value_text (Some v) = codes " value " ++ bytes_alone v

-- an entry as it is listed
abbrev pub entry_text : Multiplexor → Attributes → Option (List ℕ) → List ℕ
entry_text m a v = codes "entry " ++ (multiplexor_text m ++ (codes " access " ++ (decimal (number a.access) ++ (codes " length " ++ (decimal a.shortest ++ (codes " to " ++ (decimal a.longest ++ value_text v)))))))
