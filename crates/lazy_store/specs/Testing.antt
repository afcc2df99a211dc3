-- Tests of objects on the lines of a list of bans.
use Rattle.std.specs.Prelude.{ℕ, Bool, not, ◌&&◌, nat_lt, List, Option, Some, None, filter}
use Rattle.std.specs.List.{list_any}
use Rattle.cache_law.specs.declared.object.Object.{Object}
use Rattle.cache_law.specs.declared.call.RequestView.{RequestView}
use Rattle.cache_law.specs.declared.ban.BanLine.{BanLine}
use Rattle.cache_law.specs.declared.ban.Issued.{Issued}
use Rattle.cache_law.specs.Bans.{ban_matches}
use Rattle.cache_law.specs.ShownBans.{those_open}
use Rattle.ban_lurker.specs.Looks.{is_alone}

-- the ban is one on requests where there is a request, and else one on objects alone
abbrev pub is_for : Option RequestView → Issued → Bool
is_for None issued = is_alone issued
is_for (Some request) issued = not (is_alone issued)

abbrev pub strikes : Object → Option RequestView → Issued → Bool
strikes object request issued = ban_matches issued.ban issued.moment object request

-- the line isn't completed, and its ban matches the object
abbrev pub is_hit : Object → Option RequestView → BanLine → Bool
is_hit object request line = not line.completed && (is_for request line.issued && strikes object request line.issued)

-- those that are newer than the number
abbrev pub newer_for : Option RequestView → ℕ → List Issued → List Issued
newer_for request number bans = filter (λ issued. nat_lt number issued.number && is_for request issued) bans

-- one of those that are kept and newer than the number matches the object
abbrev pub is_matched : Object → Option RequestView → ℕ → List BanLine → Bool
is_matched object request number lines = list_any (strikes object request) (newer_for request number (those_open lines))
