-- What a whole session says, or which line is its first without a meaning.
use Rattle.std.specs.Prelude.{ℕ, ◌≡◌, ◌<◌, ◌≤◌, ◌+◌, ◌-◌, ◌⊎◌, List, [], ◌∷◌, ◌++◌, Some, None, nat_lt, if◌then◌else◌}
use Rattle.std.specs.Option.{is_some}
use Rattle.session_text.specs.declared.session.FaultKind.{FaultKind}
use Rattle.session_text.specs.declared.session.FaultKind.TheVariants.{Argument, Moment, NoEnd, After}
use Rattle.session_text.specs.declared.session.Line.{Line}
use Rattle.session_text.specs.declared.session.Line.TheVariants.{At}
use Rattle.session_text.specs.declared.session.NumberedLine.{NumberedLine}
use Rattle.session_text.specs.declared.session.Session.{Session}
use Rattle.session_text.specs.declared.place.Place.{Place}
use Rattle.session_text.specs.Lines.{TextLine, lines_of, size, content}
use Rattle.session_text.specs.Readings.{Reading, Passed, End, Says, Bad, IsReading}

-- a session has at most so many bytes
abbrev pub session_limit : ℕ
session_limit = 67108864

-- the place at which a text begins: line 1, room for a whole session, moment 0, no `end` yet
abbrev pub first_place : Place
first_place = record { number = 1; room = session_limit; moment = 0; end = None }

-- the place behind a line
abbrev pub behind : Place → TextLine → Place
behind place line = record place { number = place.number + 1; room = place.room - size line }

-- the moment behind a line
abbrev pub moment_after : ℕ → Line → ℕ
moment_after moment (At later) = later
moment_after moment line = moment

-- a line that is numbered
abbrev pub numbered : ℕ → Line → NumberedLine
numbered number line = record { number = number; line = line }

-- what a line does at a place: it gives lines (one or none), and the place behind it follows; or it is a fault
pub data Step : Type 0 where
  On : List NumberedLine → Place → Step
  Stop : FaultKind → Step

-- A line that is read so does this. The moment never goes back, and behind `end` no more is said.
abbrev pub step_of : Place → TextLine → Reading → Step
step_of place line Passed = On [] (behind place line)
step_of place line End = if is_some place.end then Stop After else On [] (record (behind place line) { end = Some place.number })
step_of place line (Says says) = if nat_lt (moment_after place.moment says) place.moment then Stop Moment else (if is_some place.end then Stop After else On (numbered place.number says ∷ []) (record (behind place line) { moment = moment_after place.moment says }))
step_of place line (Bad kind) = Stop kind

-- what a line does at a place: a line that passes the limit is a fault, and else it goes by what it is read as
abbrev pub IsStep : Place → TextLine → Step → Type 0
IsStep place line step =
    ((place.room < size line) × (step ≡ Stop Argument))
    ⊎ ((size line ≤ place.room) × (reading : Reading) × IsReading (content line) reading × (step ≡ step_of place line reading))

-- From this place on the lines say this, and the `end` is at this line.
abbrev pub Reads : List TextLine → Place → List NumberedLine → ℕ → Type 0
Reads [] place lines end = (lines ≡ []) × (place.end ≡ Some end)
Reads (line ∷ rest) place lines end =
    (given more : List NumberedLine) × (next : Place) × IsStep place line (On given next) × (lines ≡ given ++ more) × Reads rest next more end

-- From this place on the first line without a meaning is this one, and this is the least kind of fault there.
-- Where `end` is wanting, it is told at the line behind the last one.
abbrev pub Fails : List TextLine → Place → ℕ → FaultKind → Type 0
Fails [] place line kind = (place.end ≡ None) × (line ≡ place.number) × (kind ≡ NoEnd)
Fails (first ∷ rest) place line kind =
    (IsStep place first (Stop kind) × (line ≡ place.number))
    ⊎ ((given : List NumberedLine) × (next : Place) × IsStep place first (On given next) × Fails rest next line kind)

-- the text is this session
abbrev pub IsSession : List ℕ → Session → Type 0
IsSession text session = Reads (lines_of text) first_place session.lines session.end

-- the text is no session: this is the first line without a meaning, and the least kind there
abbrev pub IsFault : List ℕ → ℕ → FaultKind → Type 0
IsFault text line kind = Fails (lines_of text) first_place line kind
