-- What a call leaves of the bytes that a source has left and a sink holds, where these are told.
use Rattle.std.specs.Prelude.{◌≡◌, ℕ, ◌+◌, ◌++◌, ◌<◌, ◌≤◌, List, length, take, Option}
use Rattle.std.specs.Io.KnownBytes.{Appends, Consumes, IsAtEnd}

-- the sink holds what it held, followed by a front of the piece that isn't the whole piece
abbrev pub AppendsPart : Option (List ℕ) → Option (List ℕ) → List ℕ → Type 0
AppendsPart old new piece = (n : ℕ) × (n < length piece) × Appends old new (take n piece)

-- the source lost some bytes at its front
abbrev pub LosesFront : Option (List ℕ) → Option (List ℕ) → Type 0
LosesFront old new = (front : List ℕ) × Consumes old new front

-- what the bytes grew by stood at the source's front
abbrev pub AddsFront : Option (List ℕ) → Option (List ℕ) → List ℕ → List ℕ → Type 0
AddsFront old new bytes more = (front : List ℕ) × Consumes old new front × (more ≡ bytes ++ front)

-- these bytes stood at the source's front, and they are all of it if there are at most `limit`
pub record ReadsUpTo (limit : ℕ) (old new : Option (List ℕ)) (bytes : List ℕ) : Type 0 where
  pub front : Consumes old new bytes
  pub whole : length bytes ≤ limit → IsAtEnd new
  pub bound : length bytes ≤ limit + 1
