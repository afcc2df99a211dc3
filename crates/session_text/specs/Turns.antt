-- What a turn of the reader says of a line.
use Rattle.std.specs.Prelude.{◌≡◌, ◌+◌, ◌≤◌, [], ◌∷◌}
use Rattle.session_text.specs.declared.session.Line.{Line}
use Rattle.session_text.specs.declared.command.Command.{Command}
use Rattle.session_text.specs.declared.place.Place.{Place}
use Rattle.session_text.specs.declared.place.Turn.{Turn}
use Rattle.session_text.specs.declared.place.Turn.TheVariants.{Passes, Gives, Stops}
use Rattle.session_text.specs.Lines.{TextLine}
use Rattle.session_text.specs.Commands.{ForLineOf}
use Rattle.session_text.specs.Sessions.{Step, On, Stop, IsStep, numbered, session_limit}

-- the step that a turn is, where its command's line is this
abbrev pub step_with : Line → Turn → Step
step_with says (Passes place) = On [] place
step_with says (Gives number command place) = On (numbered number says ∷ []) place
step_with says (Stops kind) = Stop kind

-- what the line of a text does at a place
abbrev pub IsTurn : Place → TextLine → Turn → Type 0
IsTurn place line (Passes next) = IsStep place line (On [] next)
IsTurn place line (Gives number command next) = ForLineOf command (λ says. IsStep place line (On (numbered number says ∷ []) next))
IsTurn place line (Stops kind) = IsStep place line (Stop kind)

-- a turn without a command, and one with no other command
abbrev pub SaysNothing : Turn → Type 0
SaysNothing (Passes place) = Unit {0}
SaysNothing (Gives number command place) = ⊥
SaysNothing (Stops kind) = Unit {0}

abbrev pub SaysOnly : Command → Turn → Type 0
SaysOnly command (Passes place) = Unit {0}
SaysOnly command (Gives number other place) = command ≡ other
SaysOnly command (Stops kind) = Unit {0}

-- line numbers stay within the room that is left
abbrev pub IsShort : Turn → Type 0
IsShort (Passes place) = place.number + place.room ≤ session_limit + 1
IsShort (Gives number command place) = place.number + place.room ≤ session_limit + 1
IsShort (Stops kind) = Unit {0}
