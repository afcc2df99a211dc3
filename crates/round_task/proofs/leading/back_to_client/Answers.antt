use Rattle.std.proofs.Common.{◌∷◌, sym, ◌∙◌}
use Rattle.cache_law.specs.declared.rounds.Given.TheVariants as given
use Rattle.vcl_runs.specs.Evaluators.{evaluator}
use Rattle.round_task.proofs.Settling.{broke, over-may, passed-back}
use Rattle.round_task.proofs.leading.back_to_client.Goals as goal

pub resume-requires : goal.resume-requires
resume-requires g c = c.requires.may

pub returns-in-Wanted : goal.returns-in-Wanted
returns-in-Wanted g c =
    let runner = g.M.Runner in
    let e = evaluator runner.turns runner.targets runner.default_of c.args.program.now in
    record {
      settles = λ drawn start givens s.
          passed-back e (λ run ran. runner.stands run c.args.program.now ran) runner.fits drawn start (given.Fetched c.args.outcome ∷ givens)
          c.resume.new.self c.in-Ok.want c.in-Wanted.want (c.in-Ok.ensures.stands start givens s) (c.in-Ok.ensures.wants start givens s) (sym c.pass-passed.ensures ∙ c.in-Wanted.is);
      goes_on = c.in-Ok.ensures.goes_on;
    }

pub returns-in-Ordered : goal.returns-in-Ordered
returns-in-Ordered g c =
    let runner = g.M.Runner in
    let e = evaluator runner.turns runner.targets runner.default_of c.args.program.now in
    record {
      settles = λ drawn start givens s.
          broke e (λ run ran. runner.stands run c.args.program.now ran) runner.fits drawn start (given.Fetched c.args.outcome ∷ givens)
          c.in-Ok.want c.in-Ordered.order _ (c.in-Ok.ensures.wants start givens s) (sym c.pass-passed.ensures ∙ c.in-Ordered.is) c.over.ensures;
      goes_on = over-may (λ run ran. runner.stands run c.args.program.now ran) runner.fits _ c.over.ensures;
    }
