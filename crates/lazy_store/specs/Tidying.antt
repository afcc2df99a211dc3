-- What is done where room is wanting: objects that aren't in time go, and those that wait for the lurker are tested.
use Rattle.std.specs.Prelude.{ℕ, Bool, not, ◌&&◌, filter}
use Rattle.cache_law.specs.Object.{in_time}
use Rattle.lazy_law.specs.Placed.{Lazy, Placed, is_unswept, kept_bans}
use Rattle.lazy_law.specs.Insertion.{has_number}
use Rattle.lazy_law.specs.Sweeping.{swept_lazy}

abbrev pub is_timely : ℕ → Placed → Bool
is_timely moment placed = in_time moment placed.view.object

-- the object has this number, and isn't in time
abbrev pub is_ended_as : ℕ → ℕ → Placed → Bool
is_ended_as moment number placed = has_number number placed && not (is_timely moment placed)

-- the objects that aren't in time are gone
abbrev pub with_timely : ℕ → Lazy → Lazy
with_timely moment lazy = record lazy { objects = filter (is_timely moment) lazy.objects }

-- the objects that waited are tested on all bans on objects alone
abbrev pub swept_whole : Lazy → Lazy
swept_whole lazy = swept_lazy (is_unswept (kept_bans lazy)) lazy
