-- What a ban does when it is issued, and what a lookup does with the bans that an object has still to be tested on
-- (Varnish Users Guide, "Purging and banning").
use Rattle.std.specs.Prelude.{ℕ, ◌+◌, Bool, false, not, List, [], ◌∷◌, filter, map, if◌then◌else◌}
use Rattle.std.specs.List.{list_any, AllByRecursion}
use Rattle.cache_law.specs.declared.ban.Ban.{Ban}
use Rattle.cache_law.specs.declared.ban.BanLine.{BanLine}
use Rattle.cache_law.specs.declared.ban.Issued.{Issued}
use Rattle.cache_law.specs.declared.call.RequestView.{RequestView}
use Rattle.cache_law.specs.Bans.{matches, meets, object_only}
use Rattle.cache_law.specs.ShownBans.{IsPartOf}
use Rattle.cache_law.specs.State.{Held}

-- the ban that is issued at the moment behind so many
abbrev pub issued_behind : ℕ → ℕ → Ban → Issued
issued_behind issued moment ban = record { number = issued + 1; moment = moment; ban = ban }

-- the ban is put onto what the object has still to be tested on
abbrev pub awaiting : Issued → Held → Held
awaiting issued held = record held { pending = issued ∷ held.pending }

-- A ban on objects alone takes each object away that it matches. Any other waits for the lookups that come to an object.
abbrev pub ban_over : Issued → List Held → List Held
ban_over issued objects =
    if object_only issued.ban
    then filter (λ held. not (matches held.view.object issued)) objects
    else map (awaiting issued) objects

-- a ban that the object has still to be tested on matches it with the request
abbrev pub is_met : RequestView → Held → Bool
is_met request held = list_any (meets held.view.object request) held.pending

-- the object once it was tested on all bans
abbrev pub cleared : Held → Held
cleared held = record held { pending = [] }

-- what objects have still to be tested on are bans that were issued
abbrev pub AwaitIssued : List Issued → List Held → Type 0
AwaitIssued bans objects = AllByRecursion (λ held. IsPartOf held.pending bans) objects

-- a line for each ban that was issued, none of them completed
abbrev pub open_line : Issued → BanLine
open_line issued = record { issued = issued; completed = false }

abbrev pub open_lines : List Issued → List BanLine
open_lines bans = map open_line bans
