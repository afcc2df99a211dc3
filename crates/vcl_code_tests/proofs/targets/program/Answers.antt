use Rattle.std.proofs.Common.{◌∙◌}
use Rattle.vcl_code_tests.proofs.Tables.{empty-meant}
use Rattle.vcl_code_tests.proofs.targets.program.Goals as goal

pub of-requires-clause-sure : goal.of-requires-clause-sure
of-requires-clause-sure g c =
    c.program_never_stuck.ensures _ ∣ c.in-Ok.ensures.joined ∣₁
    (empty-meant c.in-Ok.compiled.program.stored (c.in-Ok.ensures.stored ∙ rw (c.deref.ensures) (c.requires)))
