-- The lurker's chores.
use Rattle.std.specs.Prelude.{◌≡◌, true, not, ◌&&◌, Contains, Option, None, Some, if◌then◌else◌}
use Rattle.cache_law.specs.declared.ban.BanLine.{BanLine}
use Rattle.cache_law.specs.declared.ban.Issued.{Issued}
use Rattle.ban_lurker.specs.Looks.{is_alone}
use Rattle.ban_lurker.specs.declared.chore.Chore.{Chore}
use Rattle.lazy_law.specs.Placed.{Lazy, Placed, is_unswept, kept_bans}
use Rattle.lazy_law.specs.Sweeping.{chore_of}

-- the line's ban, where it is on objects alone and isn't completed
abbrev pub alone_in : BanLine → Option Issued
alone_in line = if not line.completed && is_alone line.issued then Some line.issued else None

-- the chore is that of an object that waits
pub record IsChoreIn (lazy : Lazy) (chore : Chore) : Type 0 where
  pub placed : Placed
  pub there : Contains lazy.objects placed
  pub waits : is_unswept (kept_bans lazy) placed ≡ true
  pub is : chore ≡ chore_of lazy placed
