use Rattle.std.proofs.Common.{ap}
use Rattle.cache_law.specs.declared.rounds.Given.{Given}
use Rattle.vcl_runs.specs.Evaluators.{evaluator}
use Rattle.round_task.specs.Rounds.{Opening, flow_of}
use Rattle.round_task.proofs.Settling.{if_ok, opened-other, over-may, settled-flow, settled-over}
use Rattle.round_task.proofs.leading.open.Goals as goal

pub returns-in-Reply : goal.returns-in-Reply
returns-in-Reply g c =
    let runner = g.M.Runner in
    let e = evaluator runner.turns runner.targets runner.default_of c.args.program.now in
    record {
      settles = if_ok _ _ c.begin.result
          (λ settled h. settled-flow e (λ run ran. runner.stands run c.args.program.now ran) runner.fits c.args.drawn _ _ settled
          (ap (λ (x : Given). flow_of (Opening c.args.request c.args.peer) x) c.in-Reply.is) h) c.begin.ensures.settles;
      goes_on = c.begin.ensures.goes_on;
    }

pub returns-in_default : goal.returns-in_default
returns-in_default g c =
    let runner = g.M.Runner in
    let e = evaluator runner.turns runner.targets runner.default_of c.args.program.now in
    record {
      settles = settled-over e (λ run ran. runner.stands run c.args.program.now ran) runner.fits c.args.drawn _ _
          (opened-other c.args.request c.args.peer c.args.given c.in_default.not-Reply) c.over.ensures;
      goes_on = over-may (λ run ran. runner.stands run c.args.program.now ran) runner.fits _ c.over.ensures;
    }
