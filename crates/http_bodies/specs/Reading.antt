-- A reader of a body: what may still come, and what body it then is.
use Rattle.std.specs.Prelude.{◌≡◌, ℕ, ◌<◌, ◌≤◌, ◌↔◌, List, [], ◌∷◌, ◌++◌, length, Bool, true, false, Option, Some, None}
use Rattle.http_bodies.specs.Bodies.{IsBody, IsChunked}
use Rattle.http_bodies.specs.declared.framing.BodyError.{BodyError}
use Rattle.http_bodies.specs.declared.framing.BodyError.TheVariants.{TooLarge}
use Rattle.http_bodies.specs.declared.framing.Framing.{Framing}
use Rattle.http_bodies.specs.declared.framing.Framing.TheVariants as framings
use Rattle.http_bodies.specs.Rests.{DataRest, LineFeedRest, ExtensionRest, BlanksRest, SizeRest, SectionRest, NameRest, ValueRest, FieldFeedRest}
use Rattle.http_bodies.specs.declared.place.Place.{Place}
use Rattle.http_bodies.specs.declared.place.Place.TheVariants.{Whole, Sized, Open, Data, Line, Refused}
use Rattle.http_bodies.specs.declared.place.LinePart.{LinePart}
use Rattle.http_bodies.specs.declared.place.LinePart.TheVariants.{Size, Blanks, Extension, LineFeed, DataReturn, DataFeed, TrailerLine, FieldName, FieldValue, FieldFeed, LastFeed}

-- the place in the body, the body so far, and the limit of its length
pub record ReaderState : Type 0 where
  pub place : Place
  pub kept : List ℕ
  pub limit : ℕ

-- this text may still come behind a front of a line, and adds these bytes to the body
abbrev pub LineLeft : LinePart → List ℕ → List ℕ → Type 0
LineLeft (Size digits size spare) text added = SizeRest digits size spare text added
LineLeft (Blanks size left spare) text added = BlanksRest size left spare text added
LineLeft (Extension size left spare) text added = ExtensionRest size left spare text added
LineLeft (LineFeed size spare) text added = LineFeedRest size spare text added
LineLeft (DataReturn spare) text added = (next : List ℕ) × (text ≡ 13 ∷ 10 ∷ next) × IsChunked spare next added
LineLeft (DataFeed spare) text added = (next : List ℕ) × (text ≡ 10 ∷ next) × IsChunked spare next added
LineLeft (TrailerLine fields left) text added = SectionRest fields text × (length text ≤ left) × (added ≡ [])
LineLeft (FieldName fields left) text added = NameRest fields text × (length text ≤ left) × (added ≡ [])
LineLeft (FieldValue fields left) text added = ValueRest fields text × (length text ≤ left) × (added ≡ [])
LineLeft (FieldFeed fields left) text added = FieldFeedRest fields text × (length text ≤ left) × (added ≡ [])
LineLeft LastFeed text added = (text ≡ 10 ∷ []) × (added ≡ [])

-- the same at each place
abbrev pub Left : Place → List ℕ → List ℕ → Type 0
Left Whole text added = (text ≡ []) × (added ≡ [])
Left (Sized n) text added = (text ≡ added) × (length added ≡ n)
Left Open text added = text ≡ added
Left (Data n spare) text added = DataRest n spare text added
Left (Line part) text added = LineLeft part text added
Left (Refused error) text added = ⊥

-- how a reader at this place has refused the body
abbrev pub refusal_at : Place → Option BodyError
refusal_at Whole = None
refusal_at (Sized n) = None
refusal_at Open = None
refusal_at (Data n spare) = None
refusal_at (Line part) = None
refusal_at (Refused error) = Some error

-- whether the body is whole at this place
abbrev pub is_whole_at : Place → Bool
is_whole_at Whole = true
is_whole_at (Sized n) = false
is_whole_at Open = false
is_whole_at (Data n spare) = false
is_whole_at (Line part) = false
is_whole_at (Refused error) = false

-- how the body was refused, if it was
abbrev pub refusal : ReaderState → Option BodyError
refusal s = refusal_at s.place

-- whether the body is whole, so that no byte more belongs to it
abbrev pub is_whole : ReaderState → Bool
is_whole s = is_whole_at s.place

-- behind this text the body is whole, and it is this one, of any length
pub record Ends (s : ReaderState) (text body : List ℕ) : Type 0 where
  pub added : List ℕ
  pub left : Left s.place text added
  pub whole : body ≡ s.kept ++ added

-- a text that reads as this body, within a limit
pub record Within (reads : List ℕ → List ℕ → Type 0) (limit : ℕ) (text body : List ℕ) : Type 0 where
  pub ends : reads text body
  pub within : length body ≤ limit

-- behind this text the body is whole and within the reader's limit
abbrev pub Makes : ReaderState → List ℕ → List ℕ → Type 0
Makes s text body = Within (Ends s) s.limit text body

-- what the new state leaves is what the old one left behind these bytes
pub record Follows (old new : ReaderState) (bytes : List ℕ) : Type 0 where
  pub limit : new.limit ≡ old.limit
  pub ends : (text body : List ℕ) → Ends new text body ↔ Ends old (bytes ++ text) body

-- a state from its parts
abbrev pub state : Place → List ℕ → ℕ → ReaderState
state place kept limit = record { place = place; kept = kept; limit = limit }

-- a reader that took nothing yet: what may come is a body of this framing, unless the framing's length is over the limit
pub record Starts (framing : Framing) (limit : ℕ) (s : ReaderState) : Type 0 where
  pub limit_is : s.limit ≡ limit
  pub ends : refusal s ≡ None → (text body : List ℕ) → Ends s text body ↔ IsBody framing text body
  pub makes : (text body : List ℕ) → Makes s text body ↔ (IsBody framing text body × (length body ≤ limit))
  pub large : (n : ℕ) → framing ≡ framings.Length n → limit < n → refusal s ≡ Some TooLarge
  pub refused : (error : BodyError) → refusal s ≡ Some error → (error ≡ TooLarge) × (n : ℕ) × (framing ≡ framings.Length n) × (limit < n)
