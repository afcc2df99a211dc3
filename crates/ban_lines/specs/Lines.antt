-- What a line of a list of bans does for a ban, and for another line.
use Rattle.std.specs.Prelude.{Bool, List, not, ◌&&◌, ◌||◌, nat_le, nat_lt}
use Rattle.cache_law.specs.declared.ban.BanLine.{BanLine}
use Rattle.cache_law.specs.declared.ban.Issued.{Issued}
use Rattle.cache_law.specs.Bans.{is_equal, stands_for}
use Rattle.cache_law.specs.ShownBans.{has_newer}

-- the line isn't marked as completed, does the work of the ban and isn't older
abbrev pub does_work : Issued → BanLine → Bool
does_work ban line = not line.completed && (nat_le ban.number line.issued.number && stands_for ban line.issued)

-- the other line is newer, and its ban equal
abbrev pub is_newer_equal : BanLine → BanLine → Bool
is_newer_equal line newer = nat_lt line.issued.number newer.issued.number && is_equal newer.issued.ban line.issued.ban

-- it isn't marked as completed, or has a newer equal one
abbrev pub is_in_order : List BanLine → BanLine → Bool
is_in_order lines line = not line.completed || has_newer lines line
