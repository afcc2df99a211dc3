use Rattle.backend_request.proofs.AskedFacts.{opened_shape, finished_shape, finished_framed}
use Rattle.backend_request.proofs.HostFacts.{same_host}
use Rattle.backend_request.proofs.laws.asked_as_meant.Goals as goal

pub returns-clause-opened : goal.returns-clause-opened
returns-clause-opened c = opened_shape

pub returns-clause-finished : goal.returns-clause-finished
returns-clause-finished c = finished_shape

pub returns-clause-frames : goal.returns-clause-frames
returns-clause-frames c = finished_framed

pub returns-clause-host : goal.returns-clause-host
returns-clause-host c = same_host
