use Rattle.std.proofs.Common.{[], ap}
use Rattle.cache_law.specs.declared.call.Reply.{Reply}
use Rattle.client_graph.specs.Opening.{opening}
use Rattle.vcl_runs.specs.Evaluators.{evaluator}
use Rattle.round_task.specs.Rounds.{after_begin}
use Rattle.round_task.proofs.Settling.{begun-other, if_ok, over-may, settled-flow, settled-over}
use Rattle.round_task.proofs.leading.begin.Goals as goal

pub to_client-requires : goal.to_client-requires
to_client-requires g c = record { may = c.in_ok-client-in-Began.ensures.goes_on c.args.program.now }

pub returns-in_ok-client-in-Began : goal.returns-in_ok-client-in-Began
returns-in_ok-client-in-Began g c =
    let runner = g.M.Runner in
    let e = evaluator runner.turns runner.targets runner.default_of c.args.program.now in
    record {
      settles = if_ok _ _ c.to_client.result
          (λ settled h. settled-flow e (λ run ran. runner.stands run c.args.program.now ran) runner.fits c.args.drawn _ _ settled
          (ap (λ (r : Reply). after_begin c.args.request c.args.peer r) c.in-Began.is)
          (h (opening c.in-Began.number c.in-Began.vcl c.args.request c.args.peer) [] (c.in_ok-client-in-Began.ensures.stands c.args.program.now))) c.to_client.ensures.settles;
      goes_on = c.to_client.ensures.goes_on;
    }

pub returns-in_default : goal.returns-in_default
returns-in_default g c =
    let runner = g.M.Runner in
    let e = evaluator runner.turns runner.targets runner.default_of c.args.program.now in
    record {
      settles = settled-over e (λ run ran. runner.stands run c.args.program.now ran) runner.fits c.args.drawn _ _
          (begun-other c.args.request c.args.peer c.args.reply c.in_default.not-Began) c.over.ensures;
      goes_on = over-may (λ run ran. runner.stands run c.args.program.now ran) runner.fits _ c.over.ensures;
    }
