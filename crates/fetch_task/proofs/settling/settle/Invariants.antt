use Rattle.vcl_runs.specs.Evaluators.{evaluator}
use Rattle.fetch_task.specs.Standing.{LeadsTo, weight_of}
use Rattle.fetch_task.proofs.settling.settle.Given as goal

-- what settles what comes now settles what came first
abbrev pub invariant-states : goal.invariant-states
invariant-states g l =
    let runner = g.M.Runner in
    LeadsTo (evaluator runner.turns runner.targets runner.default_of l.fn.program) l.fn.next l.next

abbrev pub decreases-states : goal.decreases-states
decreases-states g l = weight_of l.next
