-- What the steps of a reader keep, and what a byte leaves.
use Rattle.std.specs.Prelude.{◌≡◌, ◌≢◌, ℕ, ◌-◌, ◌<◌, ◌≤◌, ◌⊎◌, ◌↔◌, List, ◌∷◌, length, ⊤}
use Rattle.http_bodies.specs.declared.framing.BodyError.{BodyError}
use Rattle.http_bodies.specs.declared.framing.BodyError.TheVariants.{BadChunk, TooLarge}
use Rattle.http_bodies.specs.declared.place.Place.{Place}
use Rattle.http_bodies.specs.declared.place.Place.TheVariants.{Whole, Sized, Open, Data, Line, Refused}
use Rattle.http_bodies.specs.declared.place.LinePart.{LinePart}
use Rattle.http_bodies.specs.declared.place.LinePart.TheVariants.{Size, Blanks, Extension, LineFeed, DataReturn, DataFeed, TrailerLine, FieldName, FieldValue, FieldFeed, LastFeed}
use Rattle.http_bodies.specs.Reading.{LineLeft, Left}

-- the place behind one byte more of a line
abbrev pub IsNext : LinePart → ℕ → Place → Type 0
IsNext part byte next = (text added : List ℕ) → Left next text added ↔ LineLeft part (byte ∷ text) added

-- no body goes on with this byte; or each that does is longer by more than this room
abbrev pub IsRefusal : LinePart → ℕ → ℕ → BodyError → Type 0
IsRefusal part byte room error =
    ((error ≡ BadChunk) × ((text added : List ℕ) → ¬ (LineLeft part (byte ∷ text) added)))
    ⊎ ((error ≡ TooLarge) × ((text : List ℕ) × (added : List ℕ) × LineLeft part (byte ∷ text) added)
    × ((text added : List ℕ) → LineLeft part (byte ∷ text) added → room < length added))

-- there are bytes left for the rest of a line
abbrev pub LineWaits : LinePart → Type 0
LineWaits (Size digits size spare) = (digits ≤ 16) × (digits ≡ 0 → size ≡ 0)
LineWaits (Blanks size left spare) = 2 ≤ left
LineWaits (Extension size left spare) = 2 ≤ left
LineWaits (LineFeed size spare) = ⊤
LineWaits (DataReturn spare) = ⊤
LineWaits (DataFeed spare) = ⊤
LineWaits (TrailerLine fields left) = 1 ≤ left
LineWaits (FieldName fields left) = 3 ≤ left
LineWaits (FieldValue fields left) = 2 ≤ left
LineWaits (FieldFeed fields left) = 2 ≤ left
LineWaits LastFeed = ⊤

-- something is left of a length or of a line
abbrev pub Waits : Place → Type 0
Waits Whole = ⊤
Waits (Sized n) = 0 < n
Waits Open = ⊤
Waits (Data n spare) = 0 < n
Waits (Line part) = LineWaits part
Waits (Refused error) = ⊥

-- how many bytes of the body are due at least behind a front of a line
abbrev pub line_due : LinePart → ℕ
line_due (Size digits size spare) = size
line_due (Blanks size left spare) = size
line_due (Extension size left spare) = size
line_due (LineFeed size spare) = size
line_due (DataReturn spare) = 0
line_due (DataFeed spare) = 0
line_due (TrailerLine fields left) = 0
line_due (FieldName fields left) = 0
line_due (FieldValue fields left) = 0
line_due (FieldFeed fields left) = 0
line_due LastFeed = 0

-- the same at each place
abbrev pub due : Place → ℕ
due Whole = 0
due (Sized n) = n
due Open = 0
due (Data n spare) = n
due (Line part) = line_due part
due (Refused error) = 0

-- what holds of a place with room for so many bytes
pub record IsSound (place : Place) (room : ℕ) : Type 0 where
  pub waits : Waits place
  pub fits : due place ≤ room

-- what holds of each reader
pub record IsReader (place : Place) (kept : List ℕ) (limit : ℕ) : Type 0 where
  pub sound : ((error : BodyError) → place ≢ Refused error) → IsSound place (limit - length kept)
  pub fits : length kept ≤ limit
  pub refusal : (error : BodyError) → place ≡ Refused error → (error ≡ BadChunk) ⊎ (error ≡ TooLarge)
