-- A journal as a whole: a history in segments under a first line, and the bytes that it is read from.
use Rattle.std.specs.Prelude.{◌≡◌, ◌≤◌, ◌+◌, ◌^◌, ℕ, List, [], ◌∷◌, ◌++◌, length}
use Rattle.cache_law.specs.declared.call.Entry.{Entry}
use Rattle.cache_law.specs.Beginning.{base_of}
use Rattle.cache_law.specs.Segments.{Segmented, joined}
use Rattle.journal_text.specs.declared.line.First.{First}
use Rattle.journal_text.specs.declared.line.Line.{Line}
use Rattle.journal_text.specs.Journals.{journal_lines, lines_text}
use Rattle.journal_reader.specs.Histories.{AreLines}
use Rattle.audit_laws.specs.Steps.{Step, Starts, Enters, Cuts, Closes, params_of}

-- what the first line says, and the segments, of which there is one at least
pub record Journal : Type 0 where
  pub first : First
  pub segment : List Entry
  pub segments : List (List Entry)

-- the most bytes that a journal has
abbrev pub most_bytes : ℕ
most_bytes = 2 ^ 30

abbrev pub lines_in : Journal → List Line
lines_in journal = journal_lines (params_of journal.first) journal.first.boot journal.segment journal.segments

abbrev pub text_in : Journal → List ℕ
text_in journal = lines_text (lines_in journal)

-- The bytes are this journal's, and no more than a journal has. Each number has the range of its type, and each ban is the one
-- that its words say.
pub record Reads (bytes : List ℕ) (journal : Journal) : Type 0 where
  pub within : length bytes ≤ most_bytes
  pub lines : AreLines (lines_in journal)
  pub written : bytes ≡ text_in journal

-- each segment is legal from the state that those before it reach, and each but the last leaves nothing open
abbrev pub IsLawful : Journal → Type 0
IsLawful journal = Segmented (params_of journal.first) (base_of journal.first.boot) (journal.segment ∷ journal.segments)

abbrev pub entry_count : Journal → ℕ
entry_count journal = length (joined (journal.segment ∷ journal.segments))

abbrev pub segment_count : Journal → ℕ
segment_count journal = length journal.segments + 1

-- the steps of a segment, before others
abbrev pub entries_steps : List Step → List Entry → List Step
entries_steps more [] = more
entries_steps more (entry ∷ entries) = Enters entry ∷ entries_steps more entries

abbrev pub segments_steps : List Entry → List (List Entry) → List Step
segments_steps segment [] = entries_steps (Closes ∷ []) segment
segments_steps segment (next ∷ segments) = entries_steps (Cuts ∷ segments_steps next segments) segment

abbrev pub steps_in : Journal → List Step
steps_in journal = Starts journal.first ∷ segments_steps journal.segment journal.segments
