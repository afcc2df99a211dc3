-- Purges of a cache that tests its objects on bans later: what they count is what the law counts, the objects that are in time and
-- that no ban matches.
use Rattle.std.specs.Prelude.{ℕ, Bool, not, List, ◌&&◌, filter, length, map, if◌then◌else◌}
use Rattle.cache_law.specs.declared.ban.Issued.{Issued}
use Rattle.cache_law.specs.Object.{in_time, key_of, same_texts}
use Rattle.cache_law.specs.Purges.{softened}
use Rattle.ban_lurker.specs.Looks.{is_tagged}
use Rattle.lazy_law.specs.Placed.{Placed, is_dead, those_alive}

-- how many of the objects that are alive pass the test
abbrev pub count_alive : ℕ → List Issued → (Placed → Bool) → List Placed → ℕ
count_alive moment bans test objects = length (filter test (those_alive moment bans objects))

abbrev pub is_of_key : List (List ℕ) → Placed → Bool
is_of_key key placed = same_texts (key_of placed.view.object) key

-- it has at least one of the xkeys
abbrev pub is_of_xkeys : List (List ℕ) → Placed → Bool
is_of_xkeys keys placed = is_tagged keys placed.view.object

-- what a purge leaves of the objects
abbrev pub without_late : (Placed → Bool) → List Placed → List Placed
without_late test objects = filter (λ placed. not (test placed)) objects

-- a soft purge at the moment comes to the object
abbrev pub is_softened : ℕ → List (List ℕ) → Placed → Bool
is_softened moment keys placed = in_time moment placed.view.object && is_of_xkeys keys placed

-- the object's lifetime ends, and it counts as tested on all bans on objects alone
abbrev pub soft_of : ℕ → ℕ → Placed → Placed
soft_of moment issued placed =
    let view = placed.view in record placed { view = record view { object = softened moment view.object }; mark = issued }

abbrev pub softening_late : ℕ → List (List ℕ) → ℕ → Placed → Placed
softening_late moment keys issued placed = if is_softened moment keys placed then soft_of moment issued placed else placed

-- What a soft purge leaves of the objects. It tests each that it comes to on bans on objects alone first, since these match it as
-- it was when they were issued.
abbrev pub softened_late : ℕ → List (List ℕ) → List Issued → ℕ → List Placed → List Placed
softened_late moment keys bans issued objects =
    map (softening_late moment keys issued) (filter (λ placed. not (is_softened moment keys placed && is_dead bans placed)) objects)

abbrev pub xkey_late : ℕ → List (List ℕ) → Bool → List Issued → ℕ → List Placed → List Placed
xkey_late moment keys soft bans issued objects =
    if soft then softened_late moment keys bans issued objects else without_late (is_of_xkeys keys) objects
