-- How a transfer that has ended is reported. A write that has failed is Undecided where the frame was sent after which a
-- node sets the value, unless the node itself said no; otherwise it is Unwritten.
use Rattle.std.specs.Prelude.{ℕ, Bool, cond, Ok, Err, Result}
use Rattle.wire.specs.declared.multiplexor.Multiplexor.{Multiplexor}
use Rattle.wire.specs.declared.abort_code.AbortCode.{AbortCode}
use Rattle.wire.specs.AbortCodes.{number}
use Rattle.register.specs.declared.layer.Layer.{Layer}
use Rattle.register.specs.declared.layer.Layer.TheVariants as layer
use Rattle.register.specs.Layers.{layer_of}
use Rattle.master.specs.declared.phase.Aborted as master
use Rattle.master.specs.declared.phase.Finder.{Finder}
use Rattle.master.specs.declared.phase.Finder.TheVariants.{Master, Node}
use Rattle.master.specs.declared.direction.Direction.{Direction}
use Rattle.master.specs.declared.direction.Direction.TheVariants.{Upload, Download}
use Rattle.report.specs.declared.report.Failure.{Failure}
use Rattle.report.specs.declared.report.Outcome.{Outcome}
use Rattle.report.specs.declared.report.Outcome.TheVariants.{Written, Read, Unwritten, Undecided, Unread}
use Rattle.report.specs.declared.report.Report.{Report}

-- layer 1 where the master found the failure itself, else that of the code in the register
abbrev pub layer_in : Finder → AbortCode → Layer
layer_in Master c = layer.Master
layer_in Node c = layer_of (number c)

abbrev pub failure_of : Multiplexor → master.Aborted → Failure
failure_of m f = record { multiplexor = m; code = f.code; segment = f.segment; layer = layer_in f.finder f.code }

abbrev pub failed : Direction → Bool → Failure → Outcome
failed Upload maybe f = Unread f
failed Download maybe f = cond maybe (Undecided f) (Unwritten f)

abbrev pub succeeded : Direction → ℕ → Outcome
succeeded Upload n = Read n
succeeded Download n = Written

abbrev pub outcome_of : Direction → Multiplexor → Result (Unit {0}) master.Aborted → ℕ → Outcome
outcome_of w m (Ok x) n = succeeded w n
outcome_of w m (Err f) n = failed w f.may_be_set (failure_of m f)

abbrev pub report_of : Direction → Multiplexor → Result (Unit {0}) master.Aborted → ℕ → Report
report_of w m e n = record { outcome = outcome_of w m e n }
