use Rattle.backend_link.proofs.SaidFacts as facts
use Rattle.backend_link.proofs.laws.one_answer.Goals as goal

pub returns-clause-one : goal.returns-clause-one
returns-clause-one c = facts.one_answer

pub returns-clause-said : goal.returns-clause-said
returns-clause-said c = facts.said
