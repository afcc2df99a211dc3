-- How a full room makes room for one more object: of those that are there the least recently used go, as few as will do,
-- and at most 50 (varnishd(1), "nuke_limit").
use Rattle.std.specs.Prelude.{⊤, ◌≢◌, ℕ, Bool, not, List, [], ◌∷◌, ◌+◌, ◌≤◌, ◌<◌, ◌||◌, nat_le, nat_lt, filter, drop, length, Option, if◌then◌else◌}
use Rattle.std.specs.List.{AllByRecursion}
use Rattle.cache_law.specs.declared.object.Object.{Object}
use Rattle.cache_law.specs.Object.{size_of}
use Rattle.cache_law.specs.State.{Held, sizes_of, inherited, without_stale}

-- the most objects that one insertion displaces
abbrev pub most_displaced : ℕ
most_displaced = 50

-- the object was used at this place of the history or later
abbrev pub is_used_from : ℕ → Held → Bool
is_used_from place held = nat_le place held.used

-- beside this object, and the others that were used later, one of the size finds no room
abbrev pub outweighs : ℕ → ℕ → List Held → Held → Bool
outweighs room size others held = nat_lt room (sizes_of (filter (is_used_from held.used) others) + size)

-- the objects that go so that one of the size finds room
abbrev pub displaced : ℕ → ℕ → List Held → List Held
displaced room size others = filter (outweighs room size others) others

-- those that stay
abbrev pub staying : ℕ → ℕ → List Held → List Held
staying room size others = filter (λ held. not (outweighs room size others held)) others

-- no room is made where the size alone is too great, or too many objects would have to go
abbrev pub has_no_room : ℕ → ℕ → List Held → Bool
has_no_room room size others = nat_lt room size || nat_lt most_displaced (length (displaced room size others))

-- The objects once one more comes first, under the number of its fetch, used at the place of this entry, and in the stale
-- one's place. Those that it displaces go.
abbrev pub stored_over : ℕ → ℕ → ℕ → Object → Option ℕ → List Held → List Held
stored_over room place token object stale objects =
    record { view = record { number = token; hits = 0; object = object }; used = place; pending = inherited stale objects }
    ∷ staying room (size_of object) (without_stale stale objects)

-- no two of the objects were last used at one place
abbrev pub AreUsedApart : List Held → Type 0
AreUsedApart [] = ⊤
AreUsedApart (held ∷ objects) = AllByRecursion (λ other. held.used ≢ other.used) objects × AreUsedApart objects

-- an object among others that stand by their last use
abbrev pub put_by_use : Held → List Held → List Held
put_by_use held [] = held ∷ []
put_by_use held (other ∷ others) =
    if nat_le held.used other.used then held ∷ other ∷ others else other ∷ put_by_use held others

-- the objects, the least recently used first
abbrev pub by_use : List Held → List Held
by_use [] = []
by_use (held ∷ objects) = put_by_use held (by_use objects)

-- one of the size finds room once so many of the others go, the least recently used first, and with fewer it finds none
pub record MakesRoom (room size : ℕ) (others : List Held) (count : ℕ) : Type 0 where
  pub enough : sizes_of (drop count (by_use others)) + size ≤ room
  pub least : (fewer : ℕ) → fewer < count → room < sizes_of (drop fewer (by_use others)) + size
