-- How the objects in memory stand for those of the law, and the changes of them.
use Rattle.std.specs.Prelude.{ℕ, Bool, true, false, not, List, [], ◌∷◌, ◌++◌, ◌+◌, ◌==◌, ◌≤◌, ◌&&◌, nat_lt, Option, Some, None, filter, find, map, if◌then◌else◌}
use Rattle.std.specs.List.{AllByRecursion}
use Rattle.std.specs.Option.{option_map_or}
use Rattle.cache_law.specs.declared.object.Object.{Object}
use Rattle.cache_law.specs.declared.ban.Issued.{Issued}
use Rattle.cache_law.specs.Object.{in_time}
use Rattle.cache_law.specs.Bans.{object_only}
use Rattle.cache_law.specs.BansAtOnce.{cleared}
use Rattle.cache_law.specs.Lookup.{raised}
use Rattle.cache_law.specs.State.{Held}
use Rattle.cache_law.specs.Bases.{AreFalling}
use Rattle.cache_frame.specs.declared.seen.Use.{Use}
use Rattle.cache_frame.specs.declared.seen.Use.TheVariants.{Nothing, Hit, Marker}
use Rattle.flat_core.specs.declared.stored_object.StoredObject.{StoredObject}
use Rattle.flat_core.specs.declared.stored_object.Fate.{Fate}
use Rattle.flat_core.specs.declared.stored_object.Fate.TheVariants.{Stays, Tested, Goes}

-- a ban that waits for lookups
abbrev pub is_waiting : Issued → Bool
is_waiting issued = not (object_only issued.ban)

-- the bans, newest first, that were issued behind so many
abbrev pub since : ℕ → List Issued → List Issued
since count [] = []
since count (ban ∷ bans) = if nat_lt count ban.number then ban ∷ since count bans else []

-- the bans, newest first, that an object has still to be tested on which was tested when so many had been issued
abbrev pub waiting : List Issued → ℕ → List Issued
waiting bans tested = filter is_waiting (since tested bans)

-- a stored object as the law has it, where these bans were issued
abbrev pub held_of : List Issued → StoredObject → Held
held_of bans kept = record { view = kept.view; used = kept.used; pending = waiting bans kept.tested }

abbrev pub held_all : List Issued → List StoredObject → List Held
held_all bans objects = map (held_of bans) objects

-- no object was tested on more bans than were issued
abbrev pub AreTested : ℕ → List StoredObject → Type 0
AreTested issued objects = AllByRecursion (λ kept. kept.tested ≤ issued) objects

-- the bans have falling numbers, of which so many were given, and no object was tested on more
pub record AreOrdered (issued : ℕ) (bans : List Issued) (objects : List StoredObject) : Type 0 where
  pub falling : AreFalling (issued + 1) bans
  pub tested : AreTested issued objects

-- what is left of an object, where so many bans were issued
abbrev pub left_of : ℕ → Fate → StoredObject → List StoredObject
left_of count Stays kept = kept ∷ []
left_of count Tested kept = record kept { tested = count } ∷ []
left_of count Goes kept = []

-- what is left of the objects; those behind the last fate stay
abbrev pub settled : ℕ → List Fate → List StoredObject → List StoredObject
settled count [] objects = objects
settled count (fate ∷ fates) [] = []
settled count (fate ∷ fates) (kept ∷ objects) = left_of count fate kept ++ settled count fates objects

-- the objects once the first is passed on to the end, as its fate leaves it
abbrev pub moved_on : ℕ → Fate → List StoredObject → List StoredObject
moved_on count fate [] = []
moved_on count fate (kept ∷ objects) = objects ++ left_of count fate kept

-- it is changed or goes
abbrev pub is_change : Fate → Bool
is_change Stays = false
is_change Tested = true
is_change Goes = true

-- the same of objects as the law has them
abbrev pub held_left : Fate → Held → List Held
held_left Stays held = held ∷ []
held_left Tested held = cleared held ∷ []
held_left Goes held = []

abbrev pub settled_held : List Fate → List Held → List Held
settled_held [] objects = objects
settled_held (fate ∷ fates) [] = []
settled_held (fate ∷ fates) (held ∷ objects) = held_left fate held ++ settled_held fates objects

-- it is in time and has this number
abbrev pub is_of : ℕ → ℕ → StoredObject → Bool
is_of now number kept = (kept.view.number == number) && in_time now kept.view.object

-- the first of the objects that passes the test is changed
abbrev pub first_changed : (StoredObject → Bool) → (StoredObject → StoredObject) → List StoredObject → List StoredObject
first_changed test change [] = []
first_changed test change (kept ∷ objects) = if test kept then change kept ∷ objects else kept ∷ first_changed test change objects

-- the object has one more hit, and was used at this place of the history
abbrev pub counted_at : ℕ → StoredObject → StoredObject
counted_at place kept = record kept { view = raised kept.view; used = place }

-- the object was used at this place
abbrev pub touched_at : ℕ → StoredObject → StoredObject
touched_at place kept = record kept { used = place }

-- what a lookup used in memory
abbrev pub using_in : ℕ → ℕ → Use → List StoredObject → List StoredObject
using_in now place Nothing objects = objects
using_in now place (Hit number) objects = first_changed (is_of now number) (counted_at place) objects
using_in now place (Marker number) objects = first_changed (is_of now number) (touched_at place) objects

-- the object stays where one takes the place of the stale one
abbrev pub stays : Option ℕ → StoredObject → Bool
stays None kept = true
stays (Some stale) kept = not (kept.view.number == stale)

-- how many bans had been issued when the stale object was last tested, or without one how many were
abbrev pub tested_for : ℕ → Option ℕ → List StoredObject → ℕ
tested_for count None objects = count
tested_for count (Some stale) objects = option_map_or (λ kept. kept.tested) (find (λ kept. kept.view.number == stale) objects) count

-- an object that comes first, in the stale one's place, and was used at this place of the history
abbrev pub first_of : ℕ → ℕ → Object → Option ℕ → ℕ → List StoredObject → StoredObject
first_of place token object stale count objects =
    record { view = record { number = token; hits = 0; object = object }; used = place; tested = tested_for count stale objects }
