use Rattle.std.proofs.Common.{List, sym, subst}
use Rattle.vmod_host.specs.declared.signature.Stored.{Stored}
use Rattle.vcl_program.specs.declared.compiled.Compiled.{Compiled}
use Rattle.vcl_soundness.specs.Laws.{AreMeant}
use Rattle.vcl_run_tests.specs.Runnable.{IsRunnable}
use Rattle.vcl_run_tests.proofs.programs.program_in.Goals as goal

pub returns-in_ok-new-in-Ok : goal.returns-in_ok-new-in-Ok
returns-in_ok-new-in-Ok g c =
    let stored = c.args.functions.now.stored in
    let there : IsRunnable stored c.in-Ok.program = record {
      functions = c.in-Ok.ensures.stored;
      sure = c.program_never_stuck.ensures c.args.text.now ∣ c.in-Ok.ensures.joined ∣₁ (subst (λ (l : List Stored). AreMeant l) (sym c.in-Ok.ensures.stored) c.requires);
    } in
    subst (λ (p : Compiled). IsRunnable stored p) (sym c.in_ok-new-in-Ok.ensures.ok) there
