use Rattle.sdo.proofs.RoundTrips.{requests_read_back, block_requests_read_back, answers_read_back}
use Rattle.sdo.proofs.round_trips.messages_read_back.Goals as goal

pub returns : goal.returns
returns c = record { requests = requests_read_back; blocks = block_requests_read_back; answers = answers_read_back }
