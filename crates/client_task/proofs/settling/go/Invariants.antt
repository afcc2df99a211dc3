use Rattle.std.proofs.Common.{◌≡◌}
use Rattle.vcl_runs.specs.Runs.{Ran, answered}
use Rattle.client_graph.specs.declared.round.ClientWant.{ClientWant}
use Rattle.client_task.specs.Rounds.{Node, Runs, Settles, evaluator}
use Rattle.client_task.proofs.settling.go.Given as goal

-- the run goes on from where it was begun: what settles it now settles it from there
abbrev pub invariant-runs : goal.invariant-runs
invariant-runs g l =
    let runner = g.M.Runner in
    let e = evaluator runner.turns runner.targets l.fn.program in
    record {
      stands : (ran : Ran) × runner.stands l.run l.fn.program ran;
      fits : runner.fits l.run l.answer;
      same : l.state ≡ l.fn.state;
      goes : (first : Ran) → runner.stands l.fn.run l.fn.program first
          → (ran : Ran) × runner.stands l.run l.fn.program ran
          × ((node : Node) (want : ClientWant) → Settles e (Runs l.state (answered l.answer ran) l.fn.round) node want
          → Settles e (Runs l.fn.state (answered l.fn.answer first) l.fn.round) node want);
    }

abbrev pub decreases-runs : goal.decreases-runs
decreases-runs g l = g.M.Runner.left l.run l.fn.program
