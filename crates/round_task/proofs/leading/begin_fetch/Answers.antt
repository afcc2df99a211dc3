use Rattle.std.proofs.Common.{[], refl}
use Rattle.vcl_runs.specs.Evaluators.{evaluator}
use Rattle.round_task.proofs.Settling.{begun-fetch, if_ok}
use Rattle.round_task.proofs.leading.begin_fetch.Goals as goal

pub to_fetch-requires : goal.to_fetch-requires
to_fetch-requires g c = record { may = c.requires.may }

pub returns : goal.returns
returns g c =
    let runner = g.M.Runner in
    let e = evaluator runner.turns runner.targets runner.default_of c.args.program.now in
    record {
      settles = if_ok _ _ c.to_fetch.result
          (λ settled h start givens s. h start givens c.args.order [] s refl (begun-fetch e c.args.order c.in-Ok.fetch c.in-Ok.ensures)) c.to_fetch.ensures.settles;
      goes_on = c.to_fetch.ensures.goes_on;
    }
