-- How often the lurker was told to go over objects.
use Rattle.std.specs.Prelude.{◌≡◌, ◌≤◌, ℕ, Option, Some, None, Result, Ok, Err, List, ◌∷◌, ◌++◌, sum_by}
use Rattle.session_text.specs.declared.session.Line.{Line}
use Rattle.session_text.specs.declared.session.Line.TheVariants as lines
use Rattle.session_text.specs.declared.session.NumberedLine.{NumberedLine}
use Rattle.session_text.specs.declared.session.Session.{Session}
use Rattle.replay.specs.declared.event.Event.{Event}
use Rattle.replay.specs.declared.event.Event.TheVariants as events
use Rattle.replay.specs.declared.event.Aside.TheVariants as asides
use Rattle.replay.specs.declared.event.NumberedEvent.{NumberedEvent}
use Rattle.replay.specs.declared.schedule.Halt.{Halt}
use Rattle.replay.specs.declared.schedule.Halt.TheVariants as halts
use Rattle.replay.specs.declared.session.ReplayError.{ReplayError}
use Rattle.replay.specs.declared.session.ReplayError.TheVariants.{Idle, Unanswered}

-- 1 for the lurker's event, and 0 for any other
abbrev pub lurks_of : Event → ℕ
lurks_of (events.Aside (asides.Lurk count)) = 1
lurks_of event = 0

abbrev pub lurks : NumberedEvent → ℕ
lurks numbered = lurks_of numbered.event

-- the same of lines
abbrev pub lurk_of : Line → ℕ
lurk_of (lines.Lurk count) = 1
lurk_of line = 0

abbrev pub lurk_lines : NumberedLine → ℕ
lurk_lines numbered = lurk_of numbered.line

-- So often the lurker was heard: at each of its events where all were played, at those before the idle one, and else at some.
abbrev pub IsHeardSo : List NumberedEvent → ℕ → Result (Unit {0}) Halt → Type 0
IsHeardSo numbered count (Ok u) = count ≡ sum_by lurks numbered
IsHeardSo numbered count (Err (halts.Idle line)) =
    (played : List NumberedEvent) × (idle : NumberedEvent) × (rest : List NumberedEvent) × (numbered ≡ played ++ idle ∷ rest) × (idle.number ≡ line) × (count ≡ sum_by lurks played)
IsHeardSo numbered count (Err (halts.Broken broken)) = count ≤ sum_by lurks numbered

-- The same by how the session ended, of what has these numbers: its events or its lines.
abbrev pub IsSwept : {X : Type 0} → (X → ℕ) → (X → ℕ) → List X → ℕ → Option ReplayError → Type 0
IsSwept number lurking all count None = count ≡ sum_by lurking all
IsSwept number lurking all count (Some (Unanswered line)) = count ≡ sum_by lurking all
IsSwept {X} number lurking all count (Some (Idle line)) =
    (played : List X) × (idle : X) × (rest : List X) × (all ≡ played ++ idle ∷ rest) × (number idle ≡ line) × (count ≡ sum_by lurking played)
IsSwept number lurking all count (Some ending) = count ≤ sum_by lurking all

abbrev pub number_of : NumberedEvent → ℕ
number_of numbered = numbered.number

abbrev pub line_of : NumberedLine → ℕ
line_of numbered = numbered.number

-- For each line `lurk` that was heard there is one number.
abbrev pub IsSweptBy : Session → ℕ → Option ReplayError → Type 0
IsSweptBy session count ending = IsSwept line_of lurk_lines session.lines count ending
