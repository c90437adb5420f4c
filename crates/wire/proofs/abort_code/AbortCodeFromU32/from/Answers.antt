use Rattle.std.proofs.Common.{sym}
use Rattle.wire.proofs.Codes.{code_other}
use Rattle.wire.proofs.abort_code.AbortCodeFromU32.from.Goals as goal

pub returns-in_default : goal.returns-in_default
returns-in_default c = sym (code_other _)
