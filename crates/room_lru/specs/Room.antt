-- How many of the least recently used have to go for a new one.
use Rattle.std.specs.Prelude.{◌≡◌, ℕ, ◌+◌, ◌<◌, ◌≤◌, List, Option, None, Some, length, take, drop, sum}
use Rattle.room_lru.specs.Members.{Used, sizes_of, handles_of, without}

-- where the first of these sizes go, as many as the count says, the others and the new size are within the room; where
-- fewer go, they are not
pub record MakesRoom (room size : ℕ) (sizes : List ℕ) (count : ℕ) : Type 0 where
  pub within : count ≤ length sizes
  pub fits : sum (drop count sizes) + size ≤ room
  pub least : (fewer : ℕ) → fewer < count → room < sum (drop fewer sizes) + size

-- the most that go for a new one
abbrev pub most_out : ℕ
most_out = 50

-- the others than the one that the new one replaces, if it replaces one
abbrev pub others : Option ℕ → List Used → List Used
others None members = members
others (Some used) members = without used members

-- the handles are those of the first of these, as many as make room
pub record AreOut (room size : ℕ) (members : List Used) (handles : List ℕ) : Type 0 where
  pub few : length handles ≤ most_out
  pub least : MakesRoom room size (sizes_of members) (length handles)
  pub first : handles ≡ handles_of (take (length handles) members)

-- more would have to go than may, or they make no room at all
abbrev pub LackRoom : ℕ → ℕ → List Used → Type 0
LackRoom room size members = (count : ℕ) → MakesRoom room size (sizes_of members) count → most_out < count
