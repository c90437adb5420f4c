use Rattle.line.proofs.Turning.{bits_in_turn}
use Rattle.line.proofs.drop_layer.DropLayer.new.Goals as goal

pub returns-clause-in_turn : goal.returns-clause-in_turn
returns-clause-in_turn g c = bits_in_turn
