-- The place of a new object among the bans, and the object in whose place it comes.
use Rattle.std.specs.Prelude.{ℕ, ◌==◌, Option, None, Some, find, if◌then◌else◌}
use Rattle.std.specs.Option.{option_map_or}
use Rattle.lazy_law.specs.Placed.{Lazy}
use Rattle.lazy_law.specs.Insertion.{has_number}
use Rattle.lazy_store.specs.Changes.{without}

-- the place of the object of the number, or of one that was tested on all bans
abbrev pub place_at : ℕ → Lazy → ℕ
place_at number lazy = option_map_or (λ placed. placed.place) (find (has_number number) lazy.objects) lazy.issued

-- the stale object is gone, unless it has the new one's number
abbrev pub replaced : Option ℕ → ℕ → Lazy → Lazy
replaced None number lazy = lazy
replaced (Some stale) number lazy = if stale == number then lazy else without stale lazy
