use Rattle.connection.proofs.ReadingFacts as facts
use Rattle.connection.proofs.laws.one_reading.Goals as goal

pub returns-clause-one : goal.returns-clause-one
returns-clause-one c = facts.one

pub returns-clause-longer : goal.returns-clause-longer
returns-clause-longer c = facts.longer

pub returns-clause-joined : goal.returns-clause-joined
returns-clause-joined c = facts.joined

pub returns-clause-all : goal.returns-clause-all
returns-clause-all c = facts.front_of

pub returns-clause-whole : goal.returns-clause-whole
returns-clause-whole c = facts.whole
