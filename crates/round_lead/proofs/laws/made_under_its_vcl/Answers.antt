-- The round's own steps tell it.
use Rattle.round_lead.specs.Things.{ended}
use Rattle.round_lead.proofs.Vcls.{runs_under, whole_under}
use Rattle.round_lead.proofs.laws.made_under_its_vcl.Goals as goal

pub returns-clause-whole : goal.returns-clause-whole
returns-clause-whole g c = λ words words' readings readings' beginning history caller round talks closes told.
    whole_under _ _ round.request round.peer beginning.base.entries history caller told.program told.steps told.front (ended told.closing) round.numbers.items told.to_its_end told.ran told.runs told.stand

pub returns-clause-cut : goal.returns-clause-cut
returns-clause-cut g c = λ words words' readings readings' beginning history caller round talks why told.
    runs_under _ _ round.request round.peer beginning.base.entries history caller told.program told.steps told.places told.ran told.runs told.stand
