use Rattle.console_link.proofs.LineFacts as facts
use Rattle.console_link.proofs.laws.one_line.Goals as goal

pub returns-clause-one : goal.returns-clause-one
returns-clause-one c = facts.one

pub returns-clause-longer : goal.returns-clause-longer
returns-clause-longer c = facts.longer

pub returns-clause-joined : goal.returns-clause-joined
returns-clause-joined c = facts.joined

pub returns-clause-too_long : goal.returns-clause-too_long
returns-clause-too_long c = facts.too_long_longer

pub returns-clause-not_long : goal.returns-clause-not_long
returns-clause-not_long c = facts.not_long

pub returns-clause-not_begun : goal.returns-clause-not_begun
returns-clause-not_begun c = facts.not_begun
