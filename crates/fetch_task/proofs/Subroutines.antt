-- No state runs vcl_init.
use Rattle.std.proofs.Common.{◌≡◌, false, refl}
use Rattle.vcl_language.specs.Scopes.{has}
use Rattle.vcl_language.specs.declared.scope.Scope.TheVariants.{Init}
use Rattle.fetch_graph.specs.declared.fetch.State.{State}
use Rattle.fetch_graph.specs.declared.fetch.State.TheVariants as state
use Rattle.fetch_graph.specs.Graph.{subroutine_of}

pub no-init : (s : State) → has Init (subroutine_of s) ≡ false
no-init state.Request = refl
no-init (state.Response arrived) = refl
no-init (state.Error origin) = refl
