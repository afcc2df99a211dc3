-- The text of a journal, by the pieces in which it is written.
use Rattle.std.specs.Prelude.{ℕ, List, [], ◌∷◌, ◌++◌}
use Rattle.std.specs.List.{flat_map}
use Rattle.cache_law.specs.declared.call.Entry.{Entry}
use Rattle.cache_law.specs.declared.setting.Boot.{Boot}
use Rattle.cache_law.specs.declared.setting.Params.{Params}
use Rattle.journal_text.specs.declared.line.Line.{Line}
use Rattle.journal_text.specs.declared.line.Line.TheVariants as line
use Rattle.journal_text.specs.Grammar.{said_of}
use Rattle.journal_text.specs.Journals.{ended, first_of}
use Rattle.journal_writer.specs.declared.closing.Closing.{Closing}
use Rattle.journal_writer.specs.declared.closing.Closing.TheVariants.{Cut, Close}

-- the line that closes a segment
abbrev pub line_of : Closing → Line
line_of Cut = line.Cut
line_of Close = line.Close

abbrev pub first_text : Params → Boot → List ℕ
first_text params boot = ended (line.First (first_of params boot))

abbrev pub text_of_entry : Entry → List ℕ
text_of_entry entry = ended (line.Entry (said_of entry))

abbrev pub entries_text : List Entry → List ℕ
entries_text entries = flat_map text_of_entry entries

-- the lines of a segment, and the line that closes it
abbrev pub segment_text : List Entry → Closing → List ℕ
segment_text entries closing = entries_text entries ++ ended (line_of closing)

-- a segment and those behind it: each but the last is cut off
abbrev pub segments_text : List Entry → List (List Entry) → List ℕ
segments_text entries [] = segment_text entries Close
segments_text entries (segment ∷ segments) = segment_text entries Cut ++ segments_text segment segments
