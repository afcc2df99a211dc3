-- Stints over a cache, one for each segment of its history: each begins where the one before it ended, or in a state that is alike.
use Rattle.std.specs.Prelude.{◌≡◌, List, [], ◌∷◌, ◌++◌}
use Rattle.cache_law.specs.declared.call.Entry.{Entry}
use Rattle.cache_law.specs.declared.setting.Params.{Params}
use Rattle.cache_law.specs.State.{State}
use Rattle.cache_law.specs.Beginning.{Beginning}
use Rattle.cache_law.specs.History.{Legal, reached}
use Rattle.cache_law.specs.Bases.{AreAlike, IsBase, IsClosed}
use Rattle.cache_law.specs.Segments.{Segmented, from}

-- one stint of what does so made this segment, which leaves nothing open, and the cache was reopened at a base
pub record IsCutOff {S : Type 0} (does : S → S → Beginning → List Entry → Type 0) (beginning : Beginning) (old new : S) (segment : List Entry) (base : State) : Type 0 where
  pub done : does old new beginning segment
  pub legal : Legal beginning segment
  pub closed : IsClosed (reached beginning segment)
  pub is_base : IsBase base
  pub alike : AreAlike base (reached beginning segment)

-- one stint of what does so made the last segment
pub record IsLast {S : Type 0} (does : S → S → Beginning → List Entry → Type 0) (beginning : Beginning) (old new : S) (history : List Entry) : Type 0 where
  pub done : does old new beginning history
  pub legal : Legal beginning history

-- Stints of what does so, one behind another: each made one of the segments, and the next one begins at the base. The first one began
-- at `begun`, and `old` stood before it.
abbrev pub AreDone : {S : Type 0} → (S → S → Beginning → List Entry → Type 0) → Params → State → S → List (List Entry) → State → S → Type 0
AreDone does params begun old [] base new = (base ≡ begun) × (new ≡ old)
AreDone {S} does params begun old (segment ∷ segments) base new =
    (mid : S) × (next : State) × IsCutOff does (from params begun) old mid segment next × AreDone does params next mid segments base new

-- A run whose history has these segments and then this last one: the stint of the last one goes from `mid`, and began at the base.
pub record HasRun {S : Type 0} (does : S → S → Beginning → List Entry → Type 0) (params : Params) (begun : State) (old new : S)
    (segments : List (List Entry)) (last : List Entry) : Type 0 where
  pub base : State
  pub mid : S
  pub done : AreDone does params begun old segments base mid
  pub ended : does mid new (from params base) last
  pub legal : Legal (from params base) last
  pub segmented : Segmented params begun (segments ++ last ∷ [])
