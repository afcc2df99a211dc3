use Rattle.std.proofs.Common.{◌<◌, subst, sym}
use Rattle.client_graph.specs.declared.round.Next.{Next}
use Rattle.client_graph.specs.declared.round.Next.TheVariants.{Enter, Rest}
use Rattle.client_task.specs.Rounds.{Moves, evaluator}
use Rattle.client_task.specs.Standing.{weight, weight_of}
use Rattle.client_task.proofs.Going.{at-next, if_ok, led, led-lower, settled-from, stopped}
use Rattle.client_task.proofs.settling.settle.Goals as goal

pub states-init : goal.states-init
states-init g c = λ node want x. x

pub states-preserved : goal.states-preserved
states-preserved g c =
    let runner = g.M.Runner in
    let e = evaluator runner.turns runner.targets c.args.program.now in
    let from = at-next e (Moves c.args.next) c.states.next (Enter c.in-Enter.state c.in-Enter.context c.in-Enter.round) c.in-Enter.is c.states.invariant in
    λ node want x. from node want (led e _ runner.fits _ c.in_ok-run_step-in-Enter.run_step c.in-Leads.later c.in-Leads.is c.in_ok-run_step-in-Enter.ensures.went node want x)

pub states-smaller : goal.states-smaller
states-smaller g c =
    subst (λ (n : Next). weight_of c.in-Leads.later < weight_of n) (sym c.in-Enter.is)
    (led-lower (weight c.in-Enter.state c.in-Enter.round) c.in_ok-run_step-in-Enter.run_step c.in-Leads.later c.in-Leads.is c.in_ok-run_step-in-Enter.ensures.lowers)

pub returns-in-Rest : goal.returns-in-Rest
returns-in-Rest g c =
    let runner = g.M.Runner in
    let e = evaluator runner.turns runner.targets c.args.program.now in
    let from = at-next e (Moves c.args.next) c.states.next (Rest c.in-Rest.point c.in-Rest.round) c.in-Rest.is c.states.invariant in
    if_ok _ _ c.rest.result (λ settled h. settled-from e _ runner.fits _ _ settled from h) c.rest.ensures

pub returns-in-Stops : goal.returns-in-Stops
returns-in-Stops g c =
    let runner = g.M.Runner in
    let e = evaluator runner.turns runner.targets c.args.program.now in
    let from = at-next e (Moves c.args.next) c.states.next (Enter c.in-Enter.state c.in-Enter.context c.in-Enter.round) c.in-Enter.is c.states.invariant in
    settled-from e _ runner.fits _ _ _ from (stopped e _ runner.fits _ c.in_ok-run_step-in-Enter.run_step c.in-Stops.settled c.in-Stops.is c.in_ok-run_step-in-Enter.ensures.went)
