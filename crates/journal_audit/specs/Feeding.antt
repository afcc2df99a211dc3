-- What an audit knows of the bytes that it was fed.
use Rattle.std.specs.Prelude.{◌≡◌, ◌+◌, ◌-◌, ◌<◌, ◌==◌, ℕ, Bool, List, [], ◌∷◌, ◌++◌, length, take, drop}
use Rattle.units.specs.Signs.{line_feed}
use Rattle.cache_law.specs.declared.setting.Params.{Params}
use Rattle.cache_law.specs.State.{State}
use Rattle.journal_text.specs.declared.line.Line.{Line}
use Rattle.journal_text.specs.Journals.{IsLine}
use Rattle.journal_reader.specs.declared.fault.ReadError.TheVariants as errors
use Rattle.journal_reader.specs.Refusals.{IsErrorOf}
use Rattle.audit_laws.specs.declared.kind.Kind.{Kind}
use Rattle.audit_laws.specs.Steps.{AreWritable, Before, Cuts, Enters, MaySteps, Place, Step, line_for, placed, text_for}
use Rattle.audit_laws.specs.Journals.{most_bytes}
use Rattle.audit_laws.specs.Faults.{BadAt, HasNoFeed, IsLeast, TextFault}
use Rattle.audit_laws.specs.Findings.{IsLegal}
use Rattle.journal_audit.specs.declared.auditor.Auditor.{Auditor}
use Rattle.journal_audit.specs.declared.auditor.Finding.{Finding}
use Rattle.journal_audit.specs.declared.auditor.Finding.TheVariants as findings
use Rattle.journal_audit.specs.declared.course.Course.{Course}
use Rattle.journal_audit.specs.declared.fault.Expected.{Expected}
use Rattle.journal_audit.specs.declared.fault.Expected.TheVariants as expected
use Rattle.journal_audit.specs.declared.fault.Fault.{Fault}
use Rattle.journal_audit.specs.declared.going.Found.{Found}
use Rattle.journal_audit.specs.declared.going.Found.TheVariants as found
use Rattle.journal_audit.specs.Following.{IsAt, IsExpected}

-- how many entries there are among steps, and how many ends of segments
abbrev pub entries_in : List Step → ℕ
entries_in [] = 0
entries_in (Enters entry ∷ steps) = entries_in steps + 1
entries_in (step ∷ steps) = entries_in steps

abbrev pub cuts_in : List Step → ℕ
cuts_in [] = 0
cuts_in (Cuts ∷ steps) = cuts_in steps + 1
cuts_in (step ∷ steps) = cuts_in steps

-- the steps so far may be taken, and the course has gone so far
pub record IsOn {F : Type 0} (stands : F → Params → State → ℕ → Type 0) (course : Course F) (steps : List Step) : Type 0 where
  pub legal : MaySteps Before steps
  pub writable : AreWritable steps
  pub there : IsAt stands course.phase (placed Before steps)
  pub room_is : course.room + length (text_for steps) ≡ most_bytes
  pub lines_are : course.lines ≡ length steps
  pub entries_are : course.entries ≡ entries_in steps
  pub cuts_are : course.cuts ≡ cuts_in steps

-- what was expected of a text is so: it is refused as a line for this, or it is what was expected of the line that it is
abbrev pub IsExpectedOf : Expected → Place → List ℕ → Type 0
IsExpectedOf (expected.Line refusal) place text = IsErrorOf text (errors.Refused refusal)
IsExpectedOf other place text = (one : Line) → IsLine text one → IsExpected other place one

-- the text is a line behind steps, and this is wrong with it
pub record IsBadLine (steps : List Step) (text : List ℕ) (line : ℕ) (fault : Fault) : Type 0 where
  pub place : line ≡ length steps + 1
  pub least : IsLeast (TextFault (placed Before steps) (most_bytes - length (text_for steps)) text) fault.kind
  pub expects : IsExpectedOf fault.expected (placed Before steps) text

-- one step more, whose line this text is
pub record IsOneOn {F : Type 0} (stands : F → Params → State → ℕ → Type 0) (steps : List Step) (text : List ℕ) (course : Course F) : Type 0 where
  pub step : Step
  pub read : IsLine text (line_for step)
  pub on : IsOn stands course (steps ++ step ∷ [])

-- what becomes of a course with the text of a line
abbrev pub EndsCourse : {F : Type 0} → (F → Params → State → ℕ → Type 0) → List Step → List ℕ → Found F → Type 0
EndsCourse stands steps text (found.Going course) = IsOneOn stands steps text course
EndsCourse stands steps text (found.Bad line fault) = IsBadLine steps text line fault

-- the bytes are the lines of the steps so far, and a text without LF
pub record IsGoing {F : Type 0} (stands : F → Params → State → ℕ → Type 0) (course : Course F) (held bytes : List ℕ) : Type 0 where
  pub steps : List Step
  pub on : IsOn stands course steps
  pub joined : bytes ≡ text_for steps ++ held
  pub free : HasNoFeed held

-- the bytes are the lines of steps, and behind them one that is bad
pub record IsBadFrom (line : ℕ) (fault : Fault) (bytes : List ℕ) : Type 0 where
  pub steps : List Step
  pub legal : MaySteps Before steps
  pub writable : AreWritable steps
  pub room : ℕ
  pub within : room + length (text_for steps) ≡ most_bytes
  pub text : List ℕ
  pub more : List ℕ
  pub joined : bytes ≡ text_for steps ++ (text ++ line_feed ∷ more)
  pub free : HasNoFeed text
  pub bad : IsBadLine steps text line fault

abbrev pub IsFound : {F : Type 0} → (F → Params → State → ℕ → Type 0) → Found F → List ℕ → List ℕ → Type 0
IsFound stands (found.Going course) held bytes = IsGoing stands course held bytes
IsFound stands (found.Bad line fault) held bytes = IsBadFrom line fault bytes

-- the auditor was fed these bytes
abbrev pub IsFed : {F : Type 0} → (F → Params → State → ℕ → Type 0) → Auditor F → List ℕ → Type 0
IsFed stands auditor bytes = IsFound stands auditor.found auditor.held.items bytes

-- The bytes are bad at this line, and what was expected of it, up to its LF, is so.
pub record IsBadSo (bytes : List ℕ) (line : ℕ) (kind : Kind) (expected_ : Expected) : Type 0 where
  pub bad : BadAt bytes line kind
  pub expects : (text more : List ℕ) → bad.rest ≡ text ++ line_feed ∷ more → HasNoFeed text → IsExpectedOf expected_ (placed Before bad.steps) text

-- what is told of bytes holds of them
abbrev pub IsFinding : List ℕ → Finding → Type 0
IsFinding bytes (findings.Legal entries segments) = IsLegal bytes entries segments
IsFinding bytes (findings.Bad line kind expected_) = IsBadSo bytes line kind expected_

abbrev pub is_feed : ℕ → Bool
is_feed byte = byte == line_feed

-- the first LF of the bytes stands at this place
pub record HasFeedAt (bytes : List ℕ) (place : ℕ) : Type 0 where
  pub within : place < length bytes
  pub free : HasNoFeed (take place bytes)
  pub parted : bytes ≡ take place bytes ++ line_feed ∷ drop (place + 1) bytes

-- the bytes up to their first LF, and those behind it
pub record IsParted (bytes front rest : List ℕ) : Type 0 where
  pub joined : bytes ≡ front ++ line_feed ∷ rest
  pub free : HasNoFeed front
