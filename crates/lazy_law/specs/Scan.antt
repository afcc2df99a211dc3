-- A lookup that tests the objects it comes to on the bans that they weren't tested on.
use Rattle.std.specs.Prelude.{ℕ, Bool, List, [], ◌∷◌, ◌==◌, ◌||◌, Option, Some, None, map, if◌then◌else◌}
use Rattle.cache_law.specs.declared.ban.Issued.{Issued}
use Rattle.cache_law.specs.declared.object.ObjectView.{ObjectView}
use Rattle.cache_law.specs.declared.call.Query.{Query}
use Rattle.cache_law.specs.Object.{in_time, is_marker, key_of, same_texts}
use Rattle.cache_law.specs.Lookup.{Scan, ending, is_chosen_by, is_fresh, nothing_found, passing, raised, seeing}
use Rattle.lazy_law.specs.Placed.{Placed, is_dead, is_met, tested_at}

-- a ban that the object wasn't tested on matches it, alone or with the query's request
abbrev pub is_struck : List Issued → Query → Placed → Bool
is_struck bans query placed = is_dead bans placed || is_met bans query.request placed

-- an object of the key that no ban matched, before objects of which a scan finds so
abbrev pub tested_late : ℕ → Query → ℕ → Placed → List Placed → Scan Placed → Scan Placed
tested_late moment query issued placed objects scan =
    if is_chosen_by query placed.view.object
    then (if is_fresh moment query.options placed.view.object
    then ending placed.view (tested_at issued placed) objects
    else seeing moment query.options placed.view (tested_at issued placed) scan)
    else passing (tested_at issued placed) scan

-- an object of the key that is in time goes where a ban matches it
abbrev pub scanning : ℕ → Query → List Issued → ℕ → Placed → List Placed → Scan Placed → Scan Placed
scanning moment query bans issued placed objects scan =
    if is_struck bans query placed then scan else tested_late moment query issued placed objects scan

-- The lookup's scan of the objects, newest first, at the moment, where so many bans were issued. Those of other keys, those that
-- aren't in time, and those behind the fresh one are left as they are.
abbrev pub scanned_late : ℕ → Query → List Issued → ℕ → List Placed → Scan Placed
scanned_late moment query bans issued [] = nothing_found
scanned_late moment query bans issued (placed ∷ objects) =
    if same_texts (key_of placed.view.object) query.key
    then (if in_time moment placed.view.object
    then scanning moment query bans issued placed objects (scanned_late moment query bans issued objects)
    else passing placed (scanned_late moment query bans issued objects))
    else passing placed (scanned_late moment query bans issued objects)

-- the object has one more hit, and was used at this place of the history, where it has this number
abbrev pub counting_late : ℕ → ℕ → Placed → Placed
counting_late place number placed =
    if placed.view.number == number then record placed { view = raised placed.view; used = place } else placed

abbrev pub counted_late : ℕ → ℕ → List Placed → List Placed
counted_late place number objects = map (counting_late place number) objects

-- the object was used at this place where it has this number
abbrev pub touching_late : ℕ → ℕ → Placed → Placed
touching_late place number placed = if placed.view.number == number then record placed { used = place } else placed

abbrev pub touched_late : ℕ → ℕ → List Placed → List Placed
touched_late place number objects = map (touching_late place number) objects

-- what a fresh object's use leaves: a response has one more hit
abbrev pub used_fresh : ℕ → ObjectView → List Placed → List Placed
used_fresh place view objects =
    if is_marker view.object then touched_late place view.number objects else counted_late place view.number objects

abbrev pub used_other : ℕ → Option ObjectView → List Placed → List Placed
used_other place None objects = objects
used_other place (Some view) objects = counted_late place view.number objects

abbrev pub used_by : ℕ → Option ObjectView → Option ObjectView → List Placed → List Placed
used_by place None grace objects = used_other place grace objects
used_by place (Some view) grace objects = used_fresh place view objects

-- what a lookup at this place of the history leaves that found so
abbrev pub used_late : ℕ → Scan Placed → List Placed
used_late place scan = used_by place scan.fresh scan.grace scan.objects
