use Rattle.cli_console.proofs.Calls.{command_console, load_console, call_answered}
use Rattle.cli_console.proofs.laws.console_calls_are_answered.Goals as goal

pub returns-clause-commands : goal.returns-clause-commands
returns-clause-commands c = command_console

pub returns-clause-loads : goal.returns-clause-loads
returns-clause-loads c = load_console

pub returns-clause-replies : goal.returns-clause-replies
returns-clause-replies c = call_answered
