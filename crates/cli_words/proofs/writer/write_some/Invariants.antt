use Rattle.std.proofs.Common.{◌≡◌, take, ◌∷◌}
use Rattle.std.specs.List.{AllByRecursion}
use Rattle.cli_words.specs.Words.{words_text, IsBytes}
use Rattle.cli_words.proofs.writer.write_some.Given as goal

abbrev pub invariant-loop-word : goal.invariant-loop-word
invariant-loop-word l =
    (l.out.items ≡ words_text (l.first ∷ take l.word-index l.rest)) × AllByRecursion IsBytes (l.first ∷ take l.word-index l.rest)
