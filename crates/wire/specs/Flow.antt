-- What goes over a connection both ways, where it is told.
use Rattle.std.specs.Prelude.{◌≡◌, ℕ, ◌<◌, List, [], ◌++◌, length, take, Option, Some, None, Result, MatchResult}

-- the bytes that reads gave, those that reads will give, and those that writes took
pub record Flow : Type 0 where
  pub given : List ℕ
  pub left : List ℕ
  pub took : List ℕ

-- nothing went over it yet
abbrev pub IsFresh : Option Flow → Type 0
IsFresh None = Unit {0}
IsFresh (Some flow) = (flow.given ≡ []) × (flow.took ≡ [])

-- nothing more will come
abbrev pub IsOver : Option Flow → Type 0
IsOver None = Unit {0}
IsOver (Some flow) = flow.left ≡ []

-- reads gave these bytes and writes took those; a connection that isn't told doesn't begin to be
abbrev pub Moves : Option Flow → Option Flow → List ℕ → List ℕ → Type 0
Moves None None read written = Unit {0}
Moves None (Some after) read written = ⊥
Moves (Some before) None read written = ⊥
Moves (Some before) (Some after) read written =
    (after.given ≡ before.given ++ read) × (before.left ≡ read ++ after.left) × (after.took ≡ before.took ++ written)

-- a read into this room, which holds at its start what the read gave: nothing only at the end or for no room
abbrev pub Reads : {E : Type 0} → Option Flow → Option Flow → Result ℕ E → List ℕ → Type 0
Reads before after result room =
    MatchResult result (λ count. Moves before after (take count room) [] × (count ≡ 0 → 0 < length room → IsOver after)) (λ _. Moves before after [] [])

-- a write of this piece, of which a front was taken
abbrev pub Writes : {E : Type 0} → Option Flow → Option Flow → Result ℕ E → List ℕ → Type 0
Writes before after result piece = MatchResult result (λ count. Moves before after [] (take count piece)) (λ _. Moves before after [] [])

-- writes took a front of the piece that isn't the whole piece
abbrev pub MovesPart : Option Flow → Option Flow → List ℕ → Type 0
MovesPart before after piece = (n : ℕ) × (n < length piece) × Moves before after [] (take n piece)
