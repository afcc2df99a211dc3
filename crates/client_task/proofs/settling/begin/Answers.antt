use Rattle.vcl_language.specs.Scopes.{has}
use Rattle.vcl_language.specs.declared.scope.Scope.TheVariants.{Init}
use Rattle.client_task.proofs.Subroutines.{no-init}
use Rattle.std.proofs.Common.{◌≡◌, false, sym, subst}
use Rattle.vcl_language.specs.declared.scope.Subroutine.{Subroutine}
use Rattle.vcl_runs.specs.Runs.{begun}
use Rattle.client_graph.specs.Graph.{subroutine_of}
use Rattle.client_task.specs.Rounds.{evaluator}
use Rattle.client_task.proofs.Going.{entering, if_ok, went-from}
use Rattle.client_task.proofs.settling.begin.Goals as goal

pub start-requires : goal.start-requires
start-requires g c = subst (λ (s : Subroutine). has Init s ≡ false) (sym c.subroutine.ensures) (no-init c.args.state)

pub go-requires-clause-stands : goal.go-requires-clause-stands
go-requires-clause-stands g c = (begun c.subroutine.result c.args.context, c.in-Ok.ensures.stands)

pub go-requires-clause-fits : goal.go-requires-clause-fits
go-requires-clause-fits g c = c.in-Ok.ensures.fits

pub returns : goal.returns
returns g c =
    let runner = g.M.Runner in
    let e = evaluator runner.turns runner.targets c.args.program.now in
    record {
      went = if_ok _ _ c.go.result (λ run_step h. went-from e _ runner.fits _ _ run_step (entering e c.args.state c.args.context c.args.round)
          (h (begun (subroutine_of c.args.state) c.args.context) (subst (λ (s : Subroutine). runner.stands c.in-Ok.run' c.args.program.now (begun s c.args.context)) c.subroutine.ensures c.in-Ok.ensures.stands))) c.go.ensures.went;
      lowers = c.go.ensures.lowers;
    }
