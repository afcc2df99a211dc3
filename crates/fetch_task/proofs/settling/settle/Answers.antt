use Rattle.std.proofs.Common.{◌<◌, subst, sym}
use Rattle.fetch_graph.specs.declared.fetch.Next.{Next}
use Rattle.fetch_graph.specs.declared.fetch.Next.TheVariants.{Enter, Rest}
use Rattle.fetch_task.specs.Fetches.{rests}
use Rattle.vcl_runs.specs.Evaluators.{evaluator}
use Rattle.fetch_task.specs.Standing.{weight_of}
use Rattle.fetch_task.proofs.Going.{at-next}
use Rattle.fetch_task.proofs.settling.settle.Goals as goal

pub states-init : goal.states-init
states-init g c = λ place x. x

pub states-preserved : goal.states-preserved
states-preserved g c =
    let runner = g.M.Runner in
    let e = evaluator runner.turns runner.targets runner.default_of c.args.program.now in
    let from = at-next e c.args.next c.states.next (Enter c.in-Enter.state c.in-Enter.context c.in-Enter.fetch) c.in-Enter.is c.states.invariant in
    λ place x. from place (c.in_ok-later-in-Enter.ensures.leads place x)

pub states-smaller : goal.states-smaller
states-smaller g c =
    subst (λ (n : Next). weight_of c.in_ok-later-in-Enter.later < weight_of n) (sym c.in-Enter.is) c.in_ok-later-in-Enter.ensures.lowers

pub returns-in-Rest : goal.returns-in-Rest
returns-in-Rest g c =
    let runner = g.M.Runner in
    let e = evaluator runner.turns runner.targets runner.default_of c.args.program.now in
    let from = at-next e c.args.next c.states.next (Rest c.in-Rest.point c.in-Rest.fetch) c.in-Rest.is c.states.invariant in
    from (Rest c.in-Rest.point c.in-Rest.fetch) (rests c.in-Rest.point c.in-Rest.fetch)
