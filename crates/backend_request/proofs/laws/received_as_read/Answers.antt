use Rattle.backend_request.proofs.ReceivedFacts.{received_shape}
use Rattle.backend_request.proofs.laws.received_as_read.Goals as goal

pub returns : goal.returns
returns c = received_shape
