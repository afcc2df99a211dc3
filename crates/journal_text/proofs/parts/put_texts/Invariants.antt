use Rattle.std.proofs.Common.{◌≡◌, ◌++◌, ◌∷◌, length, map, take}
use Rattle.journal_text.specs.declared.word.Word.TheVariants.{Long, Quoted}
use Rattle.journal_text.proofs.parts.put_texts.Given as goal

abbrev pub invariant-loop-text : goal.invariant-loop-text
invariant-loop-text l = l.words ≡ l.fn.words ++ Long (length l.texts) ∷ map Quoted (take l.text-index l.texts)
