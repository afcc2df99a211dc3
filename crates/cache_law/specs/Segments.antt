-- A history in segments: each begins where those before it end, or in a state that is alike.
use Rattle.std.specs.Prelude.{⊤, ◌≢◌, List, [], ◌∷◌, ◌++◌}
use Rattle.cache_law.specs.declared.call.Entry.{Entry}
use Rattle.cache_law.specs.declared.setting.Params.{Params}
use Rattle.cache_law.specs.State.{State}
use Rattle.cache_law.specs.Beginning.{Beginning}
use Rattle.cache_law.specs.History.{Legal, reached}
use Rattle.cache_law.specs.Bases.{AreAlike, IsClosed}

-- a history that begins in the state
abbrev pub from : Params → State → Beginning
from params state = record { params = params; base = state }

-- the entries of all segments
abbrev pub joined : List (List Entry) → List Entry
joined [] = []
joined (segment ∷ segments) = segment ++ joined segments

-- Each segment is legal from the state that those before it reach, and each but the last leaves nothing open.
abbrev pub Segmented : Params → State → List (List Entry) → Type 0
Segmented params state [] = ⊤
Segmented params state (segment ∷ segments) =
    Legal (from params state) segment × (segments ≢ [] → IsClosed (reached (from params state) segment)) × Segmented params (reached (from params state) segment) segments

-- The segments go on from the base: it is alike to the state that they reach, and what is legal from it is one segment more.
pub record GoesOn (params : Params) (first : State) (segments : List (List Entry)) (base : State) : Type 0 where
  pub alike : AreAlike base (reached (from params first) (joined segments))
  pub more : (entries : List Entry) → Legal (from params base) entries → Segmented params first (segments ++ entries ∷ [])
