use Rattle.std.proofs.Common.{refl}
use Rattle.client_graph.specs.Opening.{opening}
use Rattle.client_graph.specs.declared.round.WaitPoint.TheVariants.{Look}
use Rattle.client_task.specs.Rounds.{Between, evaluator}
use Rattle.client_task.proofs.Tidy.{reaches-tidy}
use Rattle.client_task.proofs.laws.looks_up_without_a_fetch.Goals as goal

pub returns : goal.returns
returns g c = λ number vcl request peer givens query context round p.
    let runner = g.M.Runner in
    reaches-tidy (evaluator runner.turns runner.targets c.args.program.now) (opening number vcl request peer) givens (Between (Look query context) round) refl p
