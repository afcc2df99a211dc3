use Rattle.vcl_runs.specs.Languages.{language_of}
use Rattle.replay.proofs.Consoles.{console_is_heard}
use Rattle.replay.proofs.laws.console_is_heard.Goals as goal

pub returns : goal.returns
returns g c =
    let runner = g.M.Runner in
    console_is_heard (language_of g.L.Programs.of_text runner.turns runner.targets runner.default_of g.L.Programs.backends)
