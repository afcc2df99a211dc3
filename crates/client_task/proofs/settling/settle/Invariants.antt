use Rattle.client_graph.specs.declared.round.ClientWant.{ClientWant}
use Rattle.client_task.specs.Rounds.{Node, Moves, Settles, evaluator}
use Rattle.client_task.specs.Standing.{weight_of}
use Rattle.client_task.proofs.settling.settle.Given as goal

-- what settles what comes now settles what came first
abbrev pub invariant-states : goal.invariant-states
invariant-states g l =
    let runner = g.M.Runner in
    let e = evaluator runner.turns runner.targets l.fn.program in
    (node : Node) (want : ClientWant) → Settles e (Moves l.next) node want → Settles e (Moves l.fn.next) node want

abbrev pub decreases-states : goal.decreases-states
decreases-states g l = weight_of l.next
