use Rattle.orders.proofs.Backs.{lines_read_back, texts_read_back}
use Rattle.orders.proofs.round_trip.orders_read_back.Goals as goal

pub returns : goal.returns
returns c = record { lines = lines_read_back; texts = texts_read_back }
