use Rattle.probe_window.proofs.AllResults.{window_told}
use Rattle.probe_window.proofs.laws.window_of_all.Goals as goal

pub returns : goal.returns
returns c = window_told
