-- What is told of the connection.
use Rattle.steering.proofs.service.SteeringServiceSharedCache.serve.Goals as goal

pub returns-clause-serves : goal.returns-clause-serves
returns-clause-serves g c =
    let served = c.serve_connection-shift.ensures.served in
    (served.0, served.1, record { address = c.args.address; from = c.requires.new.from; served = served.2 })
