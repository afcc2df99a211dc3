use Rattle.http_bodies.proofs.FramingFacts as framings
use Rattle.http_bodies.proofs.laws.one_framing.Goals as goal

pub returns : goal.returns
returns c = framings.one_framing
