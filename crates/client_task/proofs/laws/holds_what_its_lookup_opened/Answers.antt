use Rattle.std.proofs.Common.{refl}
use Rattle.client_graph.specs.Opening.{opening}
use Rattle.client_task.specs.Rounds.{evaluator}
use Rattle.client_task.proofs.Tokens.{wants-with}
use Rattle.client_task.proofs.laws.holds_what_its_lookup_opened.Goals as goal

pub returns : goal.returns
returns g c = λ number vcl request peer givens want p.
    let runner = g.M.Runner in
    wants-with (evaluator runner.turns runner.targets c.args.program.now) (opening number vcl request peer) givens want (refl, refl) p
