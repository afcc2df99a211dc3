use Rattle.console_link.proofs.Quitting as facts
use Rattle.console_link.proofs.laws.quit_ends.Goals as goal

pub returns : goal.returns
returns c = facts.quit_ends
