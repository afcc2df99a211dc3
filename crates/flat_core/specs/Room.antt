-- How room is made in memory for one more object.
use Rattle.std.specs.Prelude.{◌⊎◌, ℕ, Bool, List, ◌+◌, ◌<◌, ◌≤◌, ◌&&◌, Option, Some, None, nat_le, nat_lt, filter, fold, length, sum_by, if◌then◌else◌}
use Rattle.cache_law.specs.Object.{size_of}
use Rattle.cache_law.specs.Room.{most_displaced}
use Rattle.cache_law.specs.State.{least_of}
use Rattle.flat_core.specs.declared.stored_object.StoredObject.{StoredObject}
use Rattle.flat_core.specs.StoredObject.{stays}

-- the object stays where those go that were used before this place of the history, and one takes the place of the stale one
abbrev pub stays_from : Option ℕ → ℕ → StoredObject → Bool
stays_from stale place kept = stays stale kept && nat_le place kept.used

-- it goes then, and isn't the stale one
abbrev pub goes_before : Option ℕ → ℕ → StoredObject → Bool
goes_before stale place kept = stays stale kept && nat_lt kept.used place

-- what it takes of the room then
abbrev pub size_staying : Option ℕ → ℕ → StoredObject → ℕ
size_staying stale place kept = if stays_from stale place kept then size_of kept.view.object else 0

abbrev pub sizes_staying : Option ℕ → ℕ → List StoredObject → ℕ
sizes_staying stale place objects = sum_by (size_staying stale place) objects

-- the least place that is known, once an object is seen that may stay
abbrev pub least_with : Option ℕ → ℕ → Option ℕ → StoredObject → Option ℕ
least_with stale place known kept = if stays_from stale place kept then Some (least_of kept.used known) else known

-- the least place at which one of those that stay was used
abbrev pub least_used : Option ℕ → ℕ → List StoredObject → Option ℕ
least_used stale place objects = fold (least_with stale place) None objects

-- from each place before this one on there is no room for the size
abbrev pub IsShort : ℕ → ℕ → Option ℕ → List StoredObject → ℕ → Type 0
IsShort room size stale objects place = (less : ℕ) → less < place → room < sizes_staying stale less objects + size

-- room is made for the size where those go that were used before this place
pub record MakesRoom (room size : ℕ) (stale : Option ℕ) (objects : List StoredObject) (place : ℕ) : Type 0 where
  pub enough : sizes_staying stale place objects + size ≤ room
  pub short : IsShort room size stale objects place
  pub few : length (filter (goes_before stale place) objects) ≤ most_displaced

-- too many would have to go
pub record TooMany (room size : ℕ) (stale : Option ℕ) (objects : List StoredObject) : Type 0 where
  pub place : ℕ
  pub short : IsShort room size stale objects place
  pub many : most_displaced < length (filter (goes_before stale place) objects)

-- no room is made
abbrev pub HasNone : ℕ → ℕ → Option ℕ → List StoredObject → Type 0
HasNone room size stale objects = (room < size) ⊎ TooMany room size stale objects
