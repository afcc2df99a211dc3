-- The open fetch that a client's round holds, by its token, and which wants that allows.
use Rattle.std.specs.Prelude.{◌≡◌, ⊤, ℕ, List, [], ◌∷◌, Option, Some, None}
use Rattle.cache_law.specs.declared.call.Call.{Call}
use Rattle.cache_law.specs.declared.call.Call.TheVariants as call
use Rattle.cache_law.specs.declared.call.Query.{Query}
use Rattle.cache_law.specs.declared.call.Reply.{Reply}
use Rattle.cache_law.specs.declared.call.Reply.TheVariants as reply
use Rattle.cache_law.specs.declared.rounds.Given.{Given}
use Rattle.cache_law.specs.declared.rounds.Given.TheVariants as given
use Rattle.client_graph.specs.declared.round.ClientWant.{ClientWant}
use Rattle.client_graph.specs.declared.round.ClientWant.TheVariants as want

-- a lookup opens a fetch, and a drop closes it
abbrev pub token_told : Reply → Option ℕ → Option ℕ
token_told (reply.Miss token stale) held = Some token
token_told (reply.HitMiss token) held = Some token
token_told (reply.Grace view token) held = token
token_told reply.Dropped held = None
token_told other held = held

-- a fetch that is made is over with its outcome
abbrev pub token_given : Given → Option ℕ → Option ℕ
token_given (given.Reply told) held = token_told told.reply held
token_given (given.Fetched outcome) held = None
token_given other held = held

-- what a round holds after these givens, the newest first; the oldest begins it
abbrev pub held_after : Given → List Given → Option ℕ → Option ℕ
held_after newest [] held = None
held_after newest (given ∷ givens) held = token_given newest held

abbrev pub held_token : List Given → Option ℕ
held_token [] = None
held_token (newest ∷ givens) = held_after newest givens (held_token givens)

-- a fetch of what may be stored is that of the lookup; one of a request that is passed opens none
abbrev pub IsOfToken : Option Query → ℕ → Option ℕ → Type 0
IsOfToken None number held = held ≡ None
IsOfToken (Some query) number held = held ≡ Some number

abbrev pub CallsWith : Call → Option ℕ → Type 0
CallsWith (call.Lookup query) held = held ≡ None
CallsWith call.Draw held = held ≡ None
CallsWith (call.Drop token) held = held ≡ Some token
CallsWith call.End held = held ≡ None
CallsWith other held = ⊤

-- Nothing is held at a lookup, at a draw and at the end; what is given up or fetched is what is held.
abbrev pub WantsWith : ClientWant → Option ℕ → Type 0
WantsWith (want.Cache call) held = CallsWith call held
WantsWith (want.Fetch order) held = IsOfToken order.looked order.number held
WantsWith (want.Background order) held = IsOfToken order.looked order.number held
WantsWith (want.Send delivery) held = ⊤
WantsWith want.Done held = ⊤
