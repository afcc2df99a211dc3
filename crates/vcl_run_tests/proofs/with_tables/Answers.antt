use Rattle.std.proofs.Common.{List, sym, subst}
use Rattle.vmod_host.specs.declared.signature.Stored.{Stored}
use Rattle.vcl_soundness.specs.Laws.{AreMeant}
use Rattle.vcl_run_tests.proofs.with_tables.Goals as goal

pub read_rows-requires-clause-usual : goal.read_rows-requires-clause-usual
read_rows-requires-clause-usual g c = subst (λ (l : List Stored). AreMeant l) (sym c.in-Ok-Ok.ensures.ok) c.requires.usual

pub read_rows-requires-clause-copying : goal.read_rows-requires-clause-copying
read_rows-requires-clause-copying g c = subst (λ (l : List Stored). AreMeant l) (sym c.in-Ok-Ok.ensures'.ok) c.requires.copying
