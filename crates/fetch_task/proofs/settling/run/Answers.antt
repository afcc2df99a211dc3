use Rattle.std.proofs.Common.{◌≡◌, false, sym, subst}
use Rattle.vcl_language.specs.declared.scope.Subroutine.{Subroutine}
use Rattle.vcl_language.specs.Scopes.{has}
use Rattle.vcl_language.specs.declared.scope.Scope.TheVariants.{Init}
use Rattle.fetch_task.proofs.Subroutines.{no-init}
use Rattle.vcl_runs.specs.Runs.{begun}
use Rattle.vcl_runs.specs.Evaluators.{evaluator}
use Rattle.fetch_task.proofs.Going.{asking, ending, if_ok}
use Rattle.fetch_task.proofs.Lowering.{abandoned-lower, led-lower}
use Rattle.fetch_task.proofs.settling.run.Goals as goal

pub start-requires : goal.start-requires
start-requires g c = subst (λ (s : Subroutine). has Init s ≡ false) (sym c.subroutine.ensures) (no-init c.args.state)

pub resume-requires-clause-stands : goal.resume-requires-clause-stands
resume-requires-clause-stands g c = (begun c.subroutine.result c.args.context, c.in_ok-run.ensures.stands)

pub resume-requires-clause-fits : goal.resume-requires-clause-fits
resume-requires-clause-fits g c = c.in_ok-run.ensures.fits

pub returns-in-End : goal.returns-in-End
returns-in-End g c =
    let runner = g.M.Runner in
    let e = evaluator runner.turns runner.targets runner.default_of c.args.program.now in
    let heard = c.in_ok-turn.ensures.turns (begun c.subroutine.result c.args.context) c.in_ok-run.ensures.stands in
    record {
      leads = if_ok _ _ c.lead.result
          (λ next h. ending e c.args.state c.args.context c.args.fetch c.subroutine.result c.in_ok-turn.turn c.in-End.word c.in-End.left next c.subroutine.ensures c.in-End.is heard h)
          c.lead.ensures;
      lowers = if_ok _ _ c.lead.result (λ next h. led-lower c.args.state c.in-End.word c.in-End.left c.args.fetch next h) c.lead.ensures;
    }

pub returns-in-Need : goal.returns-in-Need
returns-in-Need g c =
    let runner = g.M.Runner in
    let e = evaluator runner.turns runner.targets runner.default_of c.args.program.now in
    let heard = c.in_ok-turn.ensures.turns (begun c.subroutine.result c.args.context) c.in_ok-run.ensures.stands in
    record {
      leads = asking e c.args.state c.args.context c.args.fetch c.subroutine.result c.in_ok-turn.turn _ c.abandon.result c.subroutine.ensures c.in-Need.is heard c.abandon.ensures;
      lowers = abandoned-lower c.args.state c.args.fetch c.abandon.result c.abandon.ensures;
    }
