-- The built-in subroutines, and sets of them in which something may stand.
use Rattle.std.specs.Prelude.{ℕ, ◌==◌, Bool, List, [], ◌∷◌, ◌++◌}
use Rattle.std.specs.List.{list_any}
use Rattle.vcl_language.specs.declared.scope.Subroutine.{Subroutine}
use Rattle.vcl_language.specs.declared.scope.Subroutine.TheVariants.{Recv, Hash, Purge, Hit, Miss, Pass, Deliver, Synth, BackendFetch, BackendResponse, BackendError, Init, Fini}
use Rattle.vcl_language.specs.declared.scope.Scope.{Scope}
use Rattle.vcl_language.specs.declared.scope.Scope.TheVariants as scope

abbrev pub subroutine_number : Subroutine → ℕ
subroutine_number Recv = 0
subroutine_number Hash = 1
subroutine_number Purge = 2
subroutine_number Hit = 3
subroutine_number Miss = 4
subroutine_number Pass = 5
subroutine_number Deliver = 6
subroutine_number Synth = 7
subroutine_number BackendFetch = 8
subroutine_number BackendResponse = 9
subroutine_number BackendError = 10
subroutine_number Init = 11
subroutine_number Fini = 12

abbrev pub clients : List Subroutine
clients = Recv ∷ Hash ∷ Purge ∷ Hit ∷ Miss ∷ Pass ∷ Deliver ∷ Synth ∷ []

abbrev pub backends : List Subroutine
backends = BackendFetch ∷ BackendResponse ∷ BackendError ∷ []

-- the subroutines of a set
abbrev pub members : Scope → List Subroutine
members scope.Nowhere = []
members scope.Everywhere = Recv ∷ Hash ∷ Purge ∷ Hit ∷ Miss ∷ Pass ∷ Deliver ∷ Synth ∷ BackendFetch ∷ BackendResponse ∷ BackendError ∷ Init ∷ Fini ∷ []
members scope.Client = clients
members scope.Backend = backends
members scope.Traffic = clients ++ backends
members scope.Recv = Recv ∷ []
members scope.RecvHash = Recv ∷ Hash ∷ []
members scope.RecvHitMiss = Recv ∷ Hit ∷ Miss ∷ []
members scope.Hash = Hash ∷ []
members scope.Hit = Hit ∷ []
members scope.HitDeliver = Hit ∷ Deliver ∷ []
members scope.MissPassFetch = Miss ∷ Pass ∷ BackendFetch ∷ []
members scope.Delivering = Hit ∷ Deliver ∷ Synth ∷ BackendResponse ∷ BackendError ∷ []
members scope.DeliverSynth = Deliver ∷ Synth ∷ []
members scope.Synthesizing = Recv ∷ Purge ∷ Hit ∷ Miss ∷ Pass ∷ Deliver ∷ []
members scope.Restarting = Recv ∷ Purge ∷ Hit ∷ Miss ∷ Pass ∷ Deliver ∷ Synth ∷ []
members scope.Synth = Synth ∷ []
members scope.SynthBackendError = Synth ∷ BackendError ∷ []
members scope.FetchResponse = BackendFetch ∷ BackendResponse ∷ []
members scope.Response = BackendResponse ∷ BackendError ∷ []
members scope.BackendResponse = BackendResponse ∷ []
members scope.BackendError = BackendError ∷ []
members scope.Init = Init ∷ []
members scope.InitFini = Init ∷ Fini ∷ []
members scope.AllButFini = clients ++ backends ++ Init ∷ []

-- whether the subroutine is one of the set
abbrev pub has : Scope → Subroutine → Bool
has scope subroutine = list_any (λ member. subroutine_number member == subroutine_number subroutine) (members scope)
