-- Why a text is no line of a journal, and at which column.
use Rattle.std.specs.Prelude.{◌≡◌, ◌≢◌, ◌+◌, ◌-◌, ◌<◌, ◌==◌, ⊤, ℕ, Bool, true, false, List, [], ◌∷◌, length, drop, slice_index, Result, Ok, Err, if◌then◌else◌}
use Rattle.cache_law.specs.declared.call.Call.{Call}
use Rattle.cache_law.specs.declared.call.Call.TheVariants.{Ban}
use Rattle.ban_expr.specs.declared.error.BanError.{BanError}
use Rattle.ban_expr.specs.declared.error.BanError.TheVariants.{NoMemory}
use Rattle.ban_expr.specs.Reading.{IsRefusal as IsRefusedBan}
use Rattle.journal_text.specs.declared.line.Line.{Line}
use Rattle.journal_text.specs.declared.line.Line.TheVariants as line
use Rattle.journal_text.specs.declared.word.Word.{Word}
use Rattle.journal_text.specs.Journals.{HasReadBan, text_of}
use Rattle.journal_reader.specs.declared.fault.Fault.{Fault}
use Rattle.journal_reader.specs.declared.fault.Fault.TheVariants.{Expected, NoBan, Otherwise, Longer}
use Rattle.journal_reader.specs.declared.fault.ReadError.{ReadError}
use Rattle.journal_reader.specs.declared.fault.ReadError.TheVariants as errors
use Rattle.journal_reader.specs.declared.fault.Refusal.{Refusal}
use Rattle.journal_reader.specs.declared.fault.Stop.{Stop}
use Rattle.journal_reader.specs.Fronts.{AreFront, padded}
use Rattle.journal_reader.specs.Reading.{Read, bare, line_at}

-- how many bytes two texts have in common from their beginning on
abbrev pub agreed : List ℕ → List ℕ → ℕ
agreed [] other = 0
agreed (a ∷ text) [] = 0
agreed (a ∷ text) (b ∷ other) = if a == b then agreed text other + 1 else 0

-- the words of a ban are no ban, for this cause
abbrev pub IsNoBanCall : Call → BanError → Type 0
IsNoBanCall (Ban ban) error = IsRefusedBan ban.words error × (error ≢ NoMemory)
IsNoBanCall call error = ⊥

abbrev pub IsNoBan : Line → BanError → Type 0
IsNoBan (line.Entry said) error = IsNoBanCall said.call error
IsNoBan line error = ⊥

-- In which column a text and a line part, the text being one that goes on where the line ends or being another text there.
abbrev pub Parts : List ℕ → List ℕ → Fault → ℕ → Type 0
Parts text written Otherwise column = (agreed text written < length written) × (column ≡ agreed text written + 1)
Parts text written Longer column = (agreed text written ≡ length written) × (length written < length text) × (column ≡ agreed text written + 1)
Parts text written fault column = ⊥

-- a line that reads as this one, but for the conditions of its ban, which are those that its words say
pub record IsReadAs (found : Line) (read : Line) : Type 0 where
  pub same : bare read ≡ bare found
  pub bans : HasReadBan read

-- What is wrong with words, by what they say: where they say no more, something else is wanted; else their ban is none, the
-- place of which is that of the line's fifth word, or the line that they say is written otherwise.
abbrev pub IsFault : List ℕ → List Word → List ℕ → Read Line → Fault → ℕ → Type 0
IsFault text words places (Err stop) (Expected wanted) column = (wanted ≡ stop.wanted) × (column ≡ slice_index places (length words - stop.left))
IsFault text words places (Ok found) (NoBan error) column = IsNoBan found.0 error × (column ≡ slice_index places 4)
IsFault text words places (Ok found) fault column = (read : Line) × IsReadAs found.0 read × Parts text (text_of read) fault column
IsFault text words places (Err stop) fault column = ⊥

-- the text is no line, for this fault at this column
pub record IsRefusal (text : List ℕ) (refusal : Refusal) : Type 0 where
  pub words : List Word
  pub places : List ℕ
  pub front : AreFront (padded text) words places
  pub fault : IsFault text words places (line_at words) refusal.fault refusal.column

-- what an error tells of a text; want of memory alone is free
abbrev pub IsErrorOf : List ℕ → ReadError → Type 0
IsErrorOf text (errors.Refused refusal) = IsRefusal text refusal
IsErrorOf text errors.NoMemory = ⊤

-- The parts of reading a text, one behind another.

-- the line that words say, or what is wanted where they say no more
abbrev pub IsFoundBy : List Word → List ℕ → Result Line ReadError → Type 0
IsFoundBy words places (Ok found) = (rest : List Word) × (line_at words ≡ Ok (found, rest))
IsFoundBy words places (Err (errors.Refused refusal)) = (stop : Stop) × (line_at words ≡ Err stop) × (refusal ≡ record { column = slice_index places (length words - stop.left); fault = Expected stop.wanted })
IsFoundBy words places (Err errors.NoMemory) = ⊤

-- that words are no ban
abbrev pub no_ban : BanError → ℕ → ReadError
no_ban NoMemory column = errors.NoMemory
no_ban error column = errors.Refused (record { column = column; fault = NoBan error })

-- the line has a ban whose words are none, unless memory is wanting
abbrev pub IsBanFault : (BanError → Type 0) → ℕ → ReadError → Type 0
IsBanFault P column errors.NoMemory = ⊤
IsBanFault P column (errors.Refused refusal) = (error : BanError) × P error × (refusal ≡ record { column = column; fault = NoBan error })

-- the text isn't this line's
abbrev pub IsParting : List ℕ → List ℕ → ReadError → Type 0
IsParting text written errors.NoMemory = ⊤
IsParting text written (errors.Refused refusal) = Parts text written refusal.fault refusal.column

-- what a look at one place tells
abbrev pub Tells : List ℕ → List ℕ → ℕ → Bool → Type 0
Tells text other count true = (count < length text) × (count < length other) × (slice_index text count ≡ slice_index other count)
Tells text other count false = agreed (drop count text) (drop count other) ≡ 0
