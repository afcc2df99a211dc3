-- One request, or none.
use Rattle.connection.proofs.TurnFacts.{turn_of_round, turn_of_end, turn_of_stop}
use Rattle.connection.proofs.serving.serve_next.Goals as goal

pub returns-in-Ok-Some-clause-told : goal.returns-in-Ok-Some-clause-told
returns-in-Ok-Some-clause-told g c =
    turn_of_round g.R.Responder.does (g.L.Link.flow c.args.link.now) (g.L.Link.flow c.read_request.new.link) (g.L.Link.flow c.respond.new.link) c.args.held.now
    c.read_request.new.held c.args.responder.now c.respond.new.self (c.in-Ok-Some.head, c.in-Ok-Some.body) c.respond.result c.ending.result c.ending.ensures
    (rw c.in-Ok-Some.field-0-is at c.in-Ok-Some.ensures.told) c.respond.ensures.told

pub returns-in-Ok-None-clause-told : goal.returns-in-Ok-None-clause-told
returns-in-Ok-None-clause-told g c =
    turn_of_end g.R.Responder.does (g.L.Link.flow c.args.link.now) (g.L.Link.flow c.read_request.new.link) c.args.held.now c.read_request.new.held c.args.responder.now
    (rw c.in-Ok-None.field-0-is at c.in-Ok-None.ensures.told)

pub returns-in-Err-clause-told : goal.returns-in-Err-clause-told
returns-in-Err-clause-told g c =
    turn_of_stop g.R.Responder.does (g.L.Link.flow c.args.link.now) (g.L.Link.flow c.read_request.new.link) (g.L.Link.flow c.refuse.new.link) c.args.held.now
    c.read_request.new.held c.read_request.new.held c.args.responder.now c.in-Err.stop c.refuse.result c.in-Err.ensures.told c.refuse.ensures.told
