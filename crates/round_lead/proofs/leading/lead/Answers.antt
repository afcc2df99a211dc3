-- What is kept of the round is what was led.
use Rattle.round_lead.proofs.leading.lead.Goals as goal

pub returns-clause-led : goal.returns-clause-led
returns-clause-led g c = rw c.kept.ensures c.try_round-answered.ensures.led

pub returns-clause-moves : goal.returns-clause-moves
returns-clause-moves g c = rw c.kept.ensures c.try_round-answered.ensures.moves
