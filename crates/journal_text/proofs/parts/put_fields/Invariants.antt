use Rattle.std.proofs.Common.{◌≡◌, ◌++◌, ◌∷◌, length, take}
use Rattle.std.specs.List.{flat_map}
use Rattle.journal_text.specs.declared.word.Word.TheVariants.{Long}
use Rattle.journal_text.specs.Grammar.{field_words}
use Rattle.journal_text.proofs.parts.put_fields.Given as goal

abbrev pub invariant-loop-field : goal.invariant-loop-field
invariant-loop-field l = l.words ≡ l.fn.words ++ Long (length l.fields) ∷ flat_map field_words (take l.field-index l.fields)
