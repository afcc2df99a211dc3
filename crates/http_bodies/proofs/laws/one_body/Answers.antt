use Rattle.http_bodies.proofs.Fronts.{one_body, longer_text}
use Rattle.http_bodies.proofs.laws.one_body.Goals as goal

pub returns-clause-same : goal.returns-clause-same
returns-clause-same c = one_body

pub returns-clause-longer : goal.returns-clause-longer
returns-clause-longer c = longer_text
