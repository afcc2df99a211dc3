-- No state runs vcl_init.
use Rattle.std.proofs.Common.{◌≡◌, false, refl}
use Rattle.vcl_language.specs.Scopes.{has}
use Rattle.vcl_language.specs.declared.scope.Scope.TheVariants.{Init}
use Rattle.client_graph.specs.declared.round.State.{State}
use Rattle.client_graph.specs.declared.round.State.TheVariants as state
use Rattle.client_graph.specs.Graph.{subroutine_of}

pub no-init : (s : State) → has Init (subroutine_of s) ≡ false
no-init state.Recv = refl
no-init (state.Hash key_use) = refl
no-init state.Purge = refl
no-init (state.Hit found) = refl
no-init (state.Miss held) = refl
no-init state.Pass = refl
no-init (state.Deliver body) = refl
no-init state.Synth = refl
