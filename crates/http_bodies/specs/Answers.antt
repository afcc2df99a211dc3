-- How bytes that come in pieces are answered, whatever the pieces are. `reads` says which bytes are the body of which text.
use Rattle.std.specs.Prelude.{◌≡◌, ◌⊎◌, ℕ, ◌+◌, ◌<◌, ◌≤◌, List, ◌∷◌, ◌++◌, length, take}
use Rattle.http_bodies.specs.declared.framing.BodyError.{BodyError}
use Rattle.http_bodies.specs.declared.framing.BodyError.TheVariants.{BadLength, TwoFramings, BadChunk, TooLarge, Early, NoMemory}
use Rattle.http_bodies.specs.declared.framing.Framing.{Framing}
use Rattle.http_bodies.specs.declared.framing.Framing.TheVariants.{Length}
use Rattle.http_bodies.specs.Bodies.{IsBody}
use Rattle.http_bodies.specs.Reading.{ReaderState, Within, Ends}

-- some continuation of these bytes is a body, of any length
abbrev pub CanEnd : (List ℕ → List ℕ → Type 0) → List ℕ → Type 0
CanEnd reads bytes = (text : List ℕ) × (body : List ℕ) × reads (bytes ++ text) body

-- some continuation of these bytes is a body within the limit
abbrev pub CanEndWithin : (List ℕ → List ℕ → Type 0) → ℕ → List ℕ → Type 0
CanEndWithin reads limit bytes = (text : List ℕ) × (body : List ℕ) × Within reads limit (bytes ++ text) body

-- some longer continuation of these bytes is a body, so the body isn't over yet
abbrev pub CanGoOn : (List ℕ → List ℕ → Type 0) → List ℕ → Type 0
CanGoOn reads bytes = (byte : ℕ) × (text : List ℕ) × (body : List ℕ) × reads (bytes ++ byte ∷ text) body

-- bytes without a continuation within the limit: too many where some longer body goes on with them, else no chunks
abbrev pub IsCause : BodyError → (List ℕ → List ℕ → Type 0) → List ℕ → Type 0
IsCause BadLength reads bytes = ⊥
IsCause TwoFramings reads bytes = ⊥
IsCause BadChunk reads bytes = ¬ (CanEnd reads bytes)
IsCause TooLarge reads bytes = CanEnd reads bytes
IsCause Early reads bytes = ⊥
IsCause NoMemory reads bytes = ⊥

-- the piece is refused at its first byte with which no continuation is a body within the limit; the body wasn't over
-- before it
pub record Breaks (reads : List ℕ → List ℕ → Type 0) (limit : ℕ) (piece : List ℕ) (error : BodyError) : Type 0 where
  pub before : ℕ
  pub within : before < length piece
  pub has_end : CanEndWithin reads limit (take before piece)
  pub goes_on : CanGoOn reads (take before piece)
  pub none : ¬ (CanEndWithin reads limit (take (before + 1) piece))
  pub kind : IsCause error reads (take (before + 1) piece)

-- no body of this framing within the limit begins the text, and none will, whatever follows: it breaks at a byte, or its
-- length is over the limit
abbrev pub IsBroken : Framing → ℕ → List ℕ → BodyError → Type 0
IsBroken framing limit text error =
    Breaks (IsBody framing) limit text error ⊎ ((error ≡ TooLarge) × (n : ℕ) × (framing ≡ Length n) × (limit < n))

-- the same words of what a reader has still to come
abbrev pub HasEnd : ReaderState → List ℕ → Type 0
HasEnd s bytes = CanEnd (Ends s) bytes

abbrev pub HasEndWithin : ReaderState → List ℕ → Type 0
HasEndWithin s bytes = CanEndWithin (Ends s) s.limit bytes

abbrev pub GoesOn : ReaderState → List ℕ → Type 0
GoesOn s bytes = CanGoOn (Ends s) bytes

abbrev pub IsKind : BodyError → ReaderState → List ℕ → Type 0
IsKind error s bytes = IsCause error (Ends s) bytes

abbrev pub Refuses : ReaderState → List ℕ → BodyError → Type 0
Refuses s piece error = Breaks (Ends s) s.limit piece error

-- so many bytes of the piece are taken: they have a continuation within the limit, and bytes are left in the piece
-- only where the body is over
pub record Takes (s : ReaderState) (piece : List ℕ) (count : ℕ) : Type 0 where
  pub within : count ≤ length piece
  pub has_end : HasEndWithin s (take count piece)
  pub over : count < length piece → ¬ (GoesOn s (take count piece))
