-- What a line adds to the numbers of entries and of ends of segments.
use Rattle.std.specs.Prelude.{ℕ}
use Rattle.journal_text.specs.declared.line.Line.{Line}
use Rattle.journal_text.specs.declared.line.Line.TheVariants as line

abbrev pub entry_weight : Line → ℕ
entry_weight (line.Entry said) = 1
entry_weight other = 0

abbrev pub cut_weight : Line → ℕ
cut_weight line.Cut = 1
cut_weight other = 0
