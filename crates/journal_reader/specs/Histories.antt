-- Lines of a journal, one behind another.
use Rattle.std.specs.Prelude.{List}
use Rattle.std.specs.List.{AllByRecursion}
use Rattle.journal_text.specs.declared.line.Line.{Line}
use Rattle.journal_text.specs.Journals.{IsLine, text_of}

-- each has numbers within the range of their types, and a ban that its words say
abbrev pub IsOwnLine : Line → Type 0
IsOwnLine line = IsLine (text_of line) line

abbrev pub AreLines : List Line → Type 0
AreLines lines = AllByRecursion IsOwnLine lines
