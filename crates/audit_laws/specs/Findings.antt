-- What bytes are as a journal: legal, with so many entries and segments, or bad at a line; and how far bad ones are good.
use Rattle.std.specs.Prelude.{◌≡◌, ◌+◌, ◌<◌, ℕ, List, [], ◌∷◌, ◌++◌, length}
use Rattle.units.specs.Signs.{line_feed}
use Rattle.journal_text.specs.declared.line.Line.{Line}
use Rattle.journal_text.specs.Journals.{lines_text}
use Rattle.journal_reader.specs.Histories.{AreLines}
use Rattle.audit_laws.specs.Journals.{Journal, IsLawful, Reads, entry_count, lines_in, most_bytes, segment_count, text_in}
use Rattle.audit_laws.specs.Faults.{HasNoFeed}

-- the bytes are a journal, of a lawful history of so many entries in so many segments
pub record IsLegal (bytes : List ℕ) (entries segments : ℕ) : Type 0 where
  pub journal : Journal
  pub reads : Reads bytes journal
  pub lawful : IsLawful journal
  pub entries_are : entries ≡ entry_count journal
  pub segments_are : segments ≡ segment_count journal

-- some journal of a lawful history begins with these bytes
pub record IsFront (bytes : List ℕ) : Type 0 where
  pub journal : Journal
  pub lawful : IsLawful journal
  pub lines : AreLines (lines_in journal)
  pub behind : List ℕ
  pub written : text_in journal ≡ bytes ++ behind

-- The lines up to this one are those that some lawful journal begins with; no lawful journal begins with them and this line with its
-- LF, or they are more than a journal has.
pub record StopsAt (bytes : List ℕ) (number : ℕ) : Type 0 where
  pub lines : List Line
  pub rest : List ℕ
  pub joined : bytes ≡ lines_text lines ++ rest
  pub place : number ≡ length lines + 1
  pub are : AreLines lines
  pub front : IsFront (lines_text lines)
  pub ends : (text more : List ℕ) → rest ≡ text ++ line_feed ∷ more → HasNoFeed text → IsFront (lines_text lines ++ (text ++ line_feed ∷ []))
      → most_bytes < length (lines_text lines ++ (text ++ line_feed ∷ []))
