-- The talks with backends that exchanges came of.
use Rattle.std.specs.Prelude.{◌≡◌, ◌⊎◌, ℕ, List, [], ◌∷◌, ◌++◌, Option, Some, None}
use Rattle.http_heads.specs.declared.exchange.Backend.{Backend}
use Rattle.http_heads.specs.declared.exchange.BackendRequest.{BackendRequest}
use Rattle.http_heads.specs.declared.exchange.Exchange.{Exchange as Outcome}
use Rattle.http_heads.specs.declared.exchange.Exchange.TheVariants.{Fault, NoMemory}
use Rattle.wire.specs.Flow.{Flow, IsFresh}
use Rattle.wire.specs.declared.peer.Peer.TheVariants.{Dialed}
use Rattle.wire.specs.Telling.{LinkTold}
use Rattle.wire.specs.declared.peer.Talk.{Talk}
use Rattle.backend_link.specs.Exchanges.{Conversed, HasCauses}
use Rattle.cache_law.specs.declared.rounds.Given.{Given}
use Rattle.cache_law.specs.declared.rounds.Given.TheVariants as given
use Rattle.round_task.specs.declared.want.Want.{Want}
use Rattle.round_task.specs.declared.want.Want.TheVariants.{Exchange}
use Rattle.round_task.specs.Happened.{Happened}

-- One talk over a link, with this outcome.
pub record Talked {L : Type 0} (heard : L → LinkTold) (backend : Backend) (request : BackendRequest) (outcome : Outcome) (talks : List (Talk L)) : Type 0 where
  pub link : L
  pub start : Option Flow
  pub fresh : IsFresh start
  pub conversed : Conversed request start (heard link).flow outcome
  pub causes : HasCauses (heard link) outcome
  pub are : talks ≡ record { peer = Dialed backend.host backend.port; link = Some link } ∷ []

-- One dial that failed. What the dialer gained says that its count of failed dials rose.
pub record DialFailed {L : Type 0} (backend : Backend) (outcome : Outcome) (talks : List (Talk L)) : Type 0 where
  pub is : outcome ≡ Fault 1
  pub are : talks ≡ record { peer = Dialed backend.host backend.port; link = None } ∷ []

-- The talk that an exchange came of; where memory was wanting there may be none.
abbrev pub TalksBy : {L : Type 0} → (L → LinkTold) → Backend → BackendRequest → Outcome → List (Talk L) → Type 0
TalksBy heard backend request outcome talks =
    Talked heard backend request outcome talks ⊎ DialFailed backend outcome talks ⊎ ((outcome ≡ NoMemory) × (talks ≡ []))

-- the talks of one thing that happened; `backends` says where the backend of a name is
abbrev pub TalksFor : {L : Type 0} → (L → LinkTold) → (List ℕ → Backend) → Want → Given → List (Talk L) → Type 0
TalksFor heard backends (Exchange number backend request) (given.Exchange got) talks = TalksBy heard (backends backend) request got.exchange talks
TalksFor heard backends want other talks = talks ≡ []

-- the talks of all of them, in order
abbrev pub TalksOf : {L : Type 0} → (L → LinkTold) → (List ℕ → Backend) → List Happened → List (Talk L) → Type 0
TalksOf heard backends [] talks = talks ≡ []
TalksOf {L} heard backends (one ∷ more) talks =
    (first : List (Talk L)) × (rest : List (Talk L)) × (talks ≡ first ++ rest) × TalksFor heard backends one.want one.given first × TalksOf heard backends more rest
