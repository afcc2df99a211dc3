use Rattle.std.proofs.Common.{◌∷◌, sym, ◌∙◌}
use Rattle.vcl_runs.specs.Evaluators.{evaluator}
use Rattle.round_task.proofs.Settling.{if_ok, ordered, passed-on}
use Rattle.round_task.proofs.leading.to_client.Goals as goal

pub resume-requires : goal.resume-requires
resume-requires g c = c.requires.may

pub returns-in-Wanted : goal.returns-in-Wanted
returns-in-Wanted g c =
    let runner = g.M.Runner in
    let e = evaluator runner.turns runner.targets runner.default_of c.args.program.now in
    record {
      settles = λ start givens s.
          passed-on e (λ run ran. runner.stands run c.args.program.now ran) runner.fits c.args.drawn start (c.args.given ∷ givens)
          c.resume.new.self c.in-Ok.want c.in-Wanted.want (c.in-Ok.ensures.stands start givens s) (c.in-Ok.ensures.wants start givens s) (sym c.pass-passed.ensures ∙ c.in-Wanted.is);
      goes_on = c.in-Ok.ensures.goes_on;
    }

pub begin_fetch-requires : goal.begin_fetch-requires
begin_fetch-requires g c = record { may = c.in-Ok.ensures.goes_on }

pub returns-in-Ordered : goal.returns-in-Ordered
returns-in-Ordered g c =
    let runner = g.M.Runner in
    let e = evaluator runner.turns runner.targets runner.default_of c.args.program.now in
    record {
      settles = if_ok _ _ c.begin_fetch.result
          (λ settled h start givens s.
          ordered e (λ run ran. runner.stands run c.args.program.now ran) runner.fits c.args.drawn start (c.args.given ∷ givens)
          c.in-Ok.want c.in-Ordered.order settled (c.in-Ok.ensures.wants start givens s) (sym c.pass-passed.ensures ∙ c.in-Ordered.is)
          (h start (c.args.given ∷ givens) (c.in-Ok.ensures.stands start givens s))) c.begin_fetch.ensures.settles;
      goes_on = c.begin_fetch.ensures.goes_on;
    }
