-- Bans of a cache that tests its objects on them later: which are kept (varnish-cli(7), "ban.list").
use Rattle.std.specs.Prelude.{◌≡◌, ℕ, ◌+◌, Bool, true, false, not, ◌&&◌, nat_lt, List, ◌∷◌, map, filter, take, drop, if◌then◌else◌}
use Rattle.std.specs.List.{list_any, AllByRecursion}
use Rattle.cache_law.specs.declared.ban.Ban.{Ban}
use Rattle.cache_law.specs.declared.ban.BanLine.{BanLine}
use Rattle.cache_law.specs.declared.ban.Issued.{Issued}
use Rattle.cache_law.specs.Bans.{is_equal}
use Rattle.cache_law.specs.BansAtOnce.{issued_behind, open_line}
use Rattle.ban_lurker.specs.Looks.{is_alone}
use Rattle.lazy_law.specs.Placed.{Lazy, Placed}

-- the line once an equal ban is issued behind it
abbrev pub completed_by : Ban → BanLine → BanLine
completed_by ban line = if is_equal line.issued.ban ban then record line { completed = true } else line

-- the lines once a ban is issued
abbrev pub with_line : Issued → List BanLine → List BanLine
with_line issued lines = open_line issued ∷ map (completed_by issued.ban) lines

-- A ban is issued. No object is tested on it.
abbrev pub banned_late : ℕ → Ban → Lazy → Lazy
banned_late moment ban lazy =
    record lazy { issued = lazy.issued + 1; lines = with_line (issued_behind lazy.issued moment ban) lazy.lines }

-- the object has still to be tested on the ban
abbrev pub is_awaited_by : Issued → Placed → Bool
is_awaited_by issued placed = if is_alone issued then nat_lt placed.mark issued.number else nat_lt placed.place issued.number

-- the line isn't completed, and one of the objects has still to be tested on its ban
abbrev pub is_needed : List Placed → BanLine → Bool
is_needed objects line = not line.completed && list_any (is_awaited_by line.issued) objects

-- so many lines are left, the newest
abbrev pub cut_to : ℕ → Lazy → Lazy
cut_to left lazy = record lazy { lines = take left lazy.lines }

-- none of the others is needed
abbrev pub MayBeCut : ℕ → Lazy → Type 0
MayBeCut left lazy = AllByRecursion (λ line. is_needed lazy.objects line ≡ false) (drop left lazy.lines)

-- the lines that objects need
abbrev pub needed_lines : List Placed → List BanLine → List BanLine
needed_lines objects lines = filter (is_needed objects) lines
