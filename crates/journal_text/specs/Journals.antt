-- A journal: the text of a history in segments, and what a line of it says.
use Rattle.std.specs.Prelude.{◌≡◌, ⊤, ℕ, List, [], ◌∷◌, ◌++◌}
use Rattle.std.specs.List.{flat_map}
use Rattle.units.specs.Signs.{line_feed}
use Rattle.cache_law.specs.declared.call.Call.{Call}
use Rattle.cache_law.specs.declared.call.Call.TheVariants.{Ban}
use Rattle.cache_law.specs.declared.call.Entry.{Entry}
use Rattle.cache_law.specs.declared.setting.Boot.{Boot}
use Rattle.cache_law.specs.declared.setting.Params.{Params}
use Rattle.ban_expr.specs.Reading.{Reads}
use Rattle.journal_text.specs.declared.line.First.{First}
use Rattle.journal_text.specs.declared.line.Line.{Line}
use Rattle.journal_text.specs.declared.line.Line.TheVariants as line
use Rattle.journal_text.specs.Words.{AreWords, line_text}
use Rattle.journal_text.specs.Grammar.{line_words, said_of}

-- the text of a line, without its LF
abbrev pub text_of : Line → List ℕ
text_of line = line_text (line_words line)

-- the lines, each ended by LF
abbrev pub ended : Line → List ℕ
ended line = text_of line ++ line_feed ∷ []

abbrev pub lines_text : List Line → List ℕ
lines_text lines = flat_map ended lines

abbrev pub first_of : Params → Boot → First
first_of params boot = record { room = params.room; history = params.history; boot = boot }

abbrev pub first_line : Params → Boot → List ℕ
first_line params boot = text_of (line.First (first_of params boot))

abbrev pub entry_line : Entry → List ℕ
entry_line entry = text_of (line.Entry (said_of entry))

-- the lines of entries, before others
abbrev pub entries_before : List Line → List Entry → List Line
entries_before lines [] = lines
entries_before lines (entry ∷ entries) = line.Entry (said_of entry) ∷ entries_before lines entries

-- The lines of segments: `cut` ends each but the last, and `close` that one.
abbrev pub segments_lines : List Entry → List (List Entry) → List Line
segments_lines entries [] = entries_before (line.Close ∷ []) entries
segments_lines entries (segment ∷ segments) = entries_before (line.Cut ∷ segments_lines segment segments) entries

abbrev pub journal_lines : Params → Boot → List Entry → List (List Entry) → List Line
journal_lines params boot segment segments = line.First (first_of params boot) ∷ segments_lines segment segments

-- the journal of a run, whose history is this segment and those behind it
abbrev pub journal_text : Params → Boot → List Entry → List (List Entry) → List ℕ
journal_text params boot segment segments = lines_text (journal_lines params boot segment segments)

-- the conditions of a ban are those that its words say
abbrev pub IsReadBan : Call → Type 0
IsReadBan (Ban ban) = Reads ban.words ban.conditions
IsReadBan call = ⊤

abbrev pub HasReadBan : Line → Type 0
HasReadBan (line.Entry said) = IsReadBan said.call
HasReadBan line = ⊤

-- the line, read from a text without its LF: each number has the range of its type, and a ban is the one that its words say
pub record IsLine (text : List ℕ) (line : Line) : Type 0 where
  pub words : AreWords (line_words line)
  pub bans : HasReadBan line
  pub written : text ≡ text_of line
