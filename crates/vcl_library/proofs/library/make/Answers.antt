use Rattle.std.proofs.Common.{◌∙◌}
use Rattle.vcl_library.proofs.Standard.{table-meant}
use Rattle.vcl_library.proofs.library.make.Goals as goal

pub of-requires-clause-sure : goal.of-requires-clause-sure
of-requires-clause-sure g c =
    c.program_never_stuck.ensures c.args.text.now ∣ c.in-Ok.ensures.joined ∣₁
    (table-meant c.in-Ok.compiled.program.stored (c.in-Ok.ensures.stored ∙ rw (c.deref.ensures) (c.requires)) c.standard_are_meant.ensures)
