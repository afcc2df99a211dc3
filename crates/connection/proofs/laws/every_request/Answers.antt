use Rattle.connection.proofs.ReadingFacts as facts
use Rattle.connection.proofs.laws.every_request.Goals as goal

pub returns-clause-front : goal.returns-clause-front
returns-clause-front c = facts.of_all

pub returns-clause-bad : goal.returns-clause-bad
returns-clause-bad c = facts.bad_of_all

pub returns-clause-end : goal.returns-clause-end
returns-clause-end c = facts.empty_lacks
