-- An insertion into a cache that tests its objects on bans later. Where the sizes of all that is stored leave room, nothing is
-- tested; else those that wait are tested first, since the law's sum leaves out those that bans match.
use Rattle.std.specs.Prelude.{ℕ, Bool, false, not, List, ◌∷◌, ◌+◌, ◌==◌, ◌||◌, nat_le, nat_lt, Option, Some, None, filter, find, length, map, sum_by, if◌then◌else◌}
use Rattle.std.specs.List.{list_any}
use Rattle.std.specs.Option.{option_map_or}
use Rattle.cache_law.specs.declared.ban.Issued.{Issued}
use Rattle.cache_law.specs.declared.object.Object.{Object}
use Rattle.cache_law.specs.Object.{size_of}
use Rattle.cache_law.specs.Room.{most_displaced}
use Rattle.lazy_law.specs.Placed.{Placed, is_unswept, those_alive}
use Rattle.lazy_law.specs.Sweeping.{sweeping}

abbrev pub has_number : ℕ → Placed → Bool
has_number number placed = placed.view.number == number

-- a stale object was named, and isn't there any more: it isn't stored, isn't in time, or a ban matches it
abbrev pub is_gone_late : ℕ → List Issued → Option ℕ → List Placed → Bool
is_gone_late moment bans None objects = false
is_gone_late moment bans (Some stale) objects = not (list_any (has_number stale) (those_alive moment bans objects))

abbrev pub others_late : Option ℕ → List Placed → List Placed
others_late None objects = objects
others_late (Some stale) objects = filter (λ placed. not (has_number stale placed)) objects

-- the place of the stale object, or that of a new one where so many bans were issued
abbrev pub place_for : ℕ → List Issued → ℕ → Option ℕ → List Placed → ℕ
place_for moment bans issued None objects = issued
place_for moment bans issued (Some stale) objects =
    option_map_or (λ placed. placed.place) (find (has_number stale) (those_alive moment bans objects)) issued

abbrev pub sizes_late : List Placed → ℕ
sizes_late objects = sum_by (λ placed. size_of placed.view.object) objects

abbrev pub is_used_from_late : ℕ → Placed → Bool
is_used_from_late place placed = nat_le place placed.used

-- beside this object, and the others that were used later, one of the size finds no room
abbrev pub outweighs_late : ℕ → ℕ → List Placed → Placed → Bool
outweighs_late room size others placed = nat_lt room (sizes_late (filter (is_used_from_late placed.used) others) + size)

abbrev pub displaced_late : ℕ → ℕ → List Placed → List Placed
displaced_late room size others = filter (outweighs_late room size others) others

abbrev pub staying_late : ℕ → ℕ → List Placed → List Placed
staying_late room size others = filter (λ placed. not (outweighs_late room size others placed)) others

-- those that are alive; those of them that waited for the lurker count as tested on all bans on objects alone
abbrev pub tended : ℕ → List Issued → ℕ → List Placed → List Placed
tended moment bans issued objects = map (sweeping (is_unswept bans) issued) (those_alive moment bans objects)

-- one of the size finds room beside all that is stored
abbrev pub fits_late : ℕ → ℕ → List Placed → Bool
fits_late room size others = nat_le (sizes_late others + size) room

abbrev pub lacks_room : ℕ → ℕ → List Placed → Bool
lacks_room room size others = nat_lt room size || nat_lt most_displaced (length (displaced_late room size others))

abbrev pub has_no_room_late : ℕ → ℕ → ℕ → List Issued → ℕ → List Placed → Bool
has_no_room_late room size moment bans issued others =
    if fits_late room size others then false else lacks_room room size (tended moment bans issued others)

abbrev pub made_room : ℕ → ℕ → ℕ → List Issued → ℕ → List Placed → List Placed
made_room room size moment bans issued others =
    if fits_late room size others then others else staying_late room size (tended moment bans issued others)

-- the object under the number of its fetch, used at the place of this entry, where so many bans were issued
abbrev pub new_placed : ℕ → ℕ → Object → ℕ → ℕ → Placed
new_placed place token object tested issued =
    record { view = record { number = token; hits = 0; object = object }; used = place; place = tested; mark = issued }

-- the objects once one more comes first, in the stale one's place
abbrev pub stored_late : ℕ → ℕ → ℕ → List Issued → ℕ → ℕ → Object → Option ℕ → List Placed → List Placed
stored_late room moment place bans issued token object stale objects =
    new_placed place token object (place_for moment bans issued stale objects) issued
    ∷ made_room room (size_of object) moment bans issued (others_late stale objects)
