use Rattle.std.proofs.Common.{sym, ap, ◌∙◌, arith}
use Rattle.register.specs.Layers.{register, layer_of}
use Rattle.register.proofs.Registering.{rising, layer_there, layer_missing}
use Rattle.register.proofs.register.layer_of.Goals as goal

pub returns-in-Some : goal.returns-in-Some
returns-in-Some c =
    let i = c.in-Some.i in
    sym (layer_there c.from.result register 0 i i _ (omega arith) (c.in-Some.ensures.answers rising).place) ∙ ap layer_of c.from.ensures

pub returns-in-None : goal.returns-in-None
returns-in-None c =
    sym (layer_missing c.from.result register 0 (c.in-None.ensures.answers rising).place) ∙ ap layer_of c.from.ensures
