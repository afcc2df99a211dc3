-- A table without functions.
use Rattle.std.proofs.Common.{◌≡◌, zero, suc, List, [], sym, subst}
use Rattle.std.proofs.lemmas.Option.{none-some}
use Rattle.vmod_host.specs.declared.signature.Stored.{Stored}
use Rattle.vcl_soundness.specs.Laws.{AreMeant}

none-meant : AreMeant []
none-meant zero entry e = absurd (none-some entry e)
none-meant (suc k) entry e = absurd (none-some entry e)

pub empty-meant : (stored : List Stored) → stored ≡ [] → AreMeant stored
empty-meant stored e = subst (λ (l : List Stored). AreMeant l) (sym e) none-meant
