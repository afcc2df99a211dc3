-- The use of an object.
use Rattle.std.specs.Prelude.{◌<◌, ℕ, List, map, if◌then◌else◌}
use Rattle.std.specs.List.{AllByRecursion}
use Rattle.cache_law.specs.Lookup.{raised}
use Rattle.lazy_law.specs.Placed.{Lazy, Placed}
use Rattle.lazy_law.specs.Insertion.{has_number}
use Rattle.lazy_law.specs.Scan.{touched_late}

-- all objects were used before this place of the history
abbrev pub AreUsedBefore : ℕ → List Placed → Type 0
AreUsedBefore place objects = AllByRecursion (λ placed. placed.used < place) objects

-- the object of the number was used at this place
abbrev pub used_at : ℕ → ℕ → Lazy → Lazy
used_at place number lazy = record lazy { objects = touched_late place number lazy.objects }

-- the object has one more hit where it has this number
abbrev pub hitting : ℕ → Placed → Placed
hitting number placed = if has_number number placed then record placed { view = raised placed.view } else placed

abbrev pub with_hit : ℕ → Lazy → Lazy
with_hit number lazy = record lazy { objects = map (hitting number) lazy.objects }
