use Rattle.std.proofs.Common.{sym, ap, ◌∙◌}
use Rattle.dictionary.specs.Commits.{decided}
use Rattle.dictionary.proofs.Starts.{start-there}
use Rattle.dictionary.proofs.starting.check_start.Goals as goal

pub returns : goal.returns
returns g c =
    let d = g.D.Readable.meaning c.args.dictionary.now in
    c.check_start.ensures ∙ ap decided (sym (start-there d c.args.multiplexor c.args.size c.in_ok-attributes.field-0 c.in_ok-attributes.ensures))
