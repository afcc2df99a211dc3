-- When each request of a connection was answered.
use Rattle.std.specs.Prelude.{◌≡◌, ◌⊎◌, ℕ, List, [], ◌∷◌, ◌++◌}
use Rattle.connection.specs.Requests.{BeginsRequests, LacksRequest}
use Rattle.connection.specs.Serving.{Round, requests_of, AllKept}
use Rattle.connection.specs.declared.ended.Answered.TheVariants.{Closes}

-- the last round closed the connection, and those before it left it open
pub record ClosedByLast (all : List Round) : Type 0 where
  pub front : List Round
  pub last : Round
  pub split : all ≡ front ++ last ∷ []
  pub kept : AllKept front
  pub closes : last.answered ≡ Closes

-- The bytes begin with the requests of these rounds, each of which was whole; and no request stands behind them, or the last one
-- closed the connection.
pub record AnswersAll (bytes : List ℕ) (all : List Round) : Type 0 where
  pub behind : List ℕ
  pub requests : BeginsRequests bytes (requests_of all) behind
  pub whole : (AllKept all × LacksRequest behind) ⊎ ClosedByLast all
