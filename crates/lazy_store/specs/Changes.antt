-- What the changes of single objects leave.
use Rattle.std.specs.Prelude.{ℕ, ◌-◌, Bool, not, ◌&&◌, nat_lt, Some, map, if◌then◌else◌}
use Rattle.ban_list.specs.declared.list.Stand.{Stand}
use Rattle.lazy_law.specs.Placed.{Lazy, Placed}
use Rattle.lazy_law.specs.Insertion.{has_number, others_late}

-- the object of the number is gone
abbrev pub without : ℕ → Lazy → Lazy
without number lazy = record lazy { objects = others_late (Some number) lazy.objects }

-- the object stands there among the bans where it has this number
abbrev pub moving : ℕ → Stand → Placed → Placed
moving number stand placed = if has_number number placed then record placed { place = stand.place; mark = stand.mark } else placed

abbrev pub moved : ℕ → Stand → Lazy → Lazy
moved number stand lazy = record lazy { objects = map (moving number stand) lazy.objects }

-- ---- how many wait for the lurker
-- where so many do, an object of this mark does
abbrev pub is_waiting : ℕ → ℕ → ℕ → Bool
is_waiting unswept newest mark = nat_lt 0 unswept && nat_lt mark newest

-- how many do without one of this mark
abbrev pub fewer : ℕ → ℕ → ℕ → ℕ
fewer unswept newest mark = if is_waiting unswept newest mark then unswept - 1 else unswept

-- how many do where one of the first mark has the second
abbrev pub with_mark : ℕ → ℕ → ℕ → ℕ → ℕ
with_mark unswept newest mark later =
    if is_waiting unswept newest mark && not (is_waiting unswept newest later) then unswept - 1 else unswept
