use Rattle.std.proofs.Common.{List, ℕ, length}
use Rattle.cli_words.proofs.Reading.{AsFar}
use Rattle.cli_words.proofs.line.are_words.Given as goal

abbrev pub invariant-words : goal.invariant-words
invariant-words l = (words : List (List ℕ)) × AsFar l.bytes l.rest words

abbrev pub decreases-words : goal.decreases-words
decreases-words l = length l.rest
