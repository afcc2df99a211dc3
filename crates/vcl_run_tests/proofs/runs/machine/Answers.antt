use Rattle.std.proofs.Common.{◌∙◌, List, sym, ap, subst}
use Rattle.vmod_host.specs.declared.signature.Stored.{Stored}
use Rattle.vcl_operands.proofs.Binds.{sure-along}
use Rattle.vcl_eval.specs.declared.machine.Machine.{Machine}
use Rattle.vcl_eval.specs.Runs.{run_at}
use Rattle.vcl_eval.specs.Turns.{IsSureAt}
use Rattle.vcl_meaning.specs.Meaning.{run_of}
use Rattle.vcl_run_tests.proofs.runs.machine.Goals as goal

pub returns-clause-sure : goal.returns-clause-sure
returns-clause-sure g c =
    let p = c.args.program.now in
    let stored = c.args.functions.now.stored in
    let subroutine = c.subroutine.result in
    let context = c.into_inner-context.result in
    subst (λ (m : Machine). IsSureAt p.code stored m) (sym c.in_ok-new.ensures.ok)
    (c.in_ok-machine.ensures.sure stored
    (λ answers.
    sure-along (run_of p.program.tree.items p.program.stored subroutine context answers) (run_at p.code stored subroutine context answers)
    (c.numbers_run.ensures subroutine context answers ∙ ap (λ (l : List Stored). run_at p.code l subroutine context answers) c.requires.functions)
    (c.requires.sure subroutine c.subroutine.ensures context answers)))
