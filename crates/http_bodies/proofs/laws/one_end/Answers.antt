use Rattle.http_bodies.proofs.EndFacts as ends
use Rattle.http_bodies.proofs.laws.one_end.Goals as goal

pub returns : goal.returns
returns c = ends.one_end
