-- What is told of a body.
use Rattle.std.specs.Prelude.{◌≡◌, ◌⊎◌, ℕ, ◌≤◌, Bool, true, List, [], ◌++◌, length, drop, take, Result, Ok, Err, Option, Some}
use Rattle.http_bodies.specs.Answers.{CanEndWithin, IsBroken, GoesOn, Takes, Refuses}
use Rattle.http_bodies.specs.Bodies.{IsBody, BeginsWith}
use Rattle.http_bodies.specs.Reading.{ReaderState, Follows, refusal}
use Rattle.http_bodies.specs.declared.framing.BodyError.{BodyError}
use Rattle.http_bodies.specs.declared.framing.Framing.{Framing}
use Rattle.http_bodies.specs.declared.framing.Framing.TheVariants.{UntilEnd}
use Rattle.wire.specs.Flow.{Flow, IsOver}
use Rattle.message_reader.specs.Causes.{body_stop}
use Rattle.message_reader.specs.declared.stop.Stop.{Stop}
use Rattle.message_reader.specs.declared.stop.Stop.TheVariants.{Read, Early, BadHead, BadBody, TooLarge, NoMemory}

-- the input begins with a body within the limit, and `rest` stands behind it; one that goes on to the end of the
-- connection is over with it
pub record HasBody (framing : Framing) (limit : ℕ) (flow : Option Flow) (input body rest : List ℕ) : Type 0 where
  pub begins : BeginsWith framing input body rest
  pub within : length body ≤ limit
  pub over : framing ≡ UntilEnd → IsOver flow

-- the input begins with no body within the limit, but goes on to one, and the link is at its end
pub record EndsEarly (framing : Framing) (limit : ℕ) (flow : Option Flow) (input : List ℕ) : Type 0 where
  pub over : IsOver flow
  pub goes_on : CanEndWithin (IsBody framing) limit input
  pub none : (body rest : List ℕ) → BeginsWith framing input body rest → length body ≤ limit → ⊥

-- the input begins with no body within the limit, whatever follows
abbrev pub BreaksOff : Framing → ℕ → Stop → List ℕ → Type 0
BreaksOff framing limit stop input = (error : BodyError) × IsBroken framing limit input error × (body_stop error ≡ stop)

abbrev pub BodyTold : Framing → ℕ → Option Flow → List ℕ → Result (List ℕ) Stop → List ℕ → Type 0
BodyTold framing limit flow rest (Ok body) input = HasBody framing limit flow input body rest
BodyTold framing limit flow rest (Err Early) input = EndsEarly framing limit flow input
BodyTold framing limit flow rest (Err BadBody) input = BreaksOff framing limit BadBody input
BodyTold framing limit flow rest (Err TooLarge) input = BreaksOff framing limit TooLarge input
BodyTold framing limit flow rest (Err Read) input = Unit {0}
BodyTold framing limit flow rest (Err NoMemory) input = Unit {0}
BodyTold framing limit flow rest (Err BadHead) input = ⊥

-- a reader took so many bytes of the input, and the others are held; nothing more belongs to the body, or nothing more comes
pub record TakesAll (old new : ReaderState) (flow : Option Flow) (rest input : List ℕ) : Type 0 where
  pub count : ℕ
  pub takes : Takes old input count
  pub follows : Follows old new (take count input)
  pub rest_is : rest ≡ drop count input
  pub over : (¬ (GoesOn new [])) ⊎ IsOver flow

-- a reader has refused the body, or refuses the input
abbrev pub Denies : ReaderState → List ℕ → BodyError → Type 0
Denies old input error = (refusal old ≡ Some error) ⊎ Refuses old input error

-- so many of the bytes that are held are fed, and told is whether the body is whole; or they are refused
abbrev pub HeldTold : ReaderState → ReaderState → List ℕ → List ℕ → Result Bool Stop → Type 0
HeldTold old new before after (Ok done) =
    (count : ℕ) × Takes old before count × Follows old new (take count before) × (after ≡ drop count before) × (done ≡ true → ¬ (GoesOn new []))
HeldTold old new before after (Err Read) = ⊥
HeldTold old new before after (Err NoMemory) = Unit {0}
HeldTold old new before after (Err Early) = (error : BodyError) × Denies old before error × (body_stop error ≡ Early)
HeldTold old new before after (Err BadHead) = ⊥
HeldTold old new before after (Err BadBody) = (error : BodyError) × Denies old before error × (body_stop error ≡ BadBody)
HeldTold old new before after (Err TooLarge) = (error : BodyError) × Denies old before error × (body_stop error ≡ TooLarge)

-- the same of all that came
abbrev pub FeedStops : ReaderState → Stop → List ℕ → Type 0
FeedStops old Read input = Unit {0}
FeedStops old NoMemory input = Unit {0}
FeedStops old Early input = (error : BodyError) × Denies old input error × (body_stop error ≡ Early)
FeedStops old BadHead input = ⊥
FeedStops old BadBody input = (error : BodyError) × Denies old input error × (body_stop error ≡ BadBody)
FeedStops old TooLarge input = (error : BodyError) × Denies old input error × (body_stop error ≡ TooLarge)

abbrev pub FeedTold : {T : Type 0} → ReaderState → ReaderState → Option Flow → List ℕ → Result T Stop → List ℕ → Type 0
FeedTold old new flow rest (Ok fed) input = TakesAll old new flow rest input
FeedTold old new flow rest (Err stop) input = FeedStops old stop input

-- what a reader that took these bytes tells of what follows is what the first one tells of both
pub record Fed (old new : ReaderState) (used : List ℕ) : Type 0 where
  pub follows : Follows old new used
  pub denies : (input : List ℕ) (error : BodyError) → Denies new input error → Denies old (used ++ input) error
