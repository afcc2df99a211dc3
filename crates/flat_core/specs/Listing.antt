-- What a list of bans lacks of those that wait for objects in memory.
use Rattle.std.specs.Prelude.{ℕ, Bool, not, List, ◌&&◌}
use Rattle.std.specs.List.{list_any}
use Rattle.cache_law.specs.declared.ban.BanLine.{BanLine}
use Rattle.cache_law.specs.declared.ban.Issued.{Issued}
use Rattle.cache_law.specs.Bans.{is_shown}
use Rattle.cache_law.specs.Object.{in_time}
use Rattle.cache_law.specs.ShownBans.{those_open}
use Rattle.flat_core.specs.declared.stored_object.StoredObject.{StoredObject}
use Rattle.flat_core.specs.StoredObject.{is_waiting, since}

-- the ban waits for lookups, and the lines don't show it
abbrev pub is_missing : List BanLine → Issued → Bool
is_missing lines ban = is_waiting ban && not (is_shown (those_open lines) ban)

-- they lack one that the object, which is in time, has still to be tested on
abbrev pub lacks_one : ℕ → List BanLine → List Issued → StoredObject → Bool
lacks_one moment lines bans kept = in_time moment kept.view.object && list_any (is_missing lines) (since kept.tested bans)
