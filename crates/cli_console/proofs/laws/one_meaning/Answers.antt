use Rattle.cli_console.proofs.Meanings.{line_one, line_reason, line_either}
use Rattle.cli_console.proofs.laws.one_meaning.Goals as goal

pub returns-clause-order : goal.returns-clause-order
returns-clause-order c = line_one

pub returns-clause-reason : goal.returns-clause-reason
returns-clause-reason c = line_reason

pub returns-clause-either : goal.returns-clause-either
returns-clause-either c = line_either
