use Rattle.std.proofs.Common.{◌≡◌, ◌++◌, ◌∷◌, length, take}
use Rattle.std.specs.List.{flat_map}
use Rattle.journal_text.specs.declared.word.Word.TheVariants.{Long}
use Rattle.journal_text.specs.Grammar.{vcl_line_words}
use Rattle.journal_text.proofs.replies.put_vcl_lines.Given as goal

abbrev pub invariant-loop-line : goal.invariant-loop-line
invariant-loop-line l = l.words ≡ l.fn.words ++ Long (length l.lines) ∷ flat_map vcl_line_words (take l.line-index l.lines)
