use Rattle.std.proofs.Common.{length}
use Rattle.cli_words.proofs.Reading.{AsFar}
use Rattle.cli_words.proofs.line.words_of.Given as goal

abbrev pub invariant-words : goal.invariant-words
invariant-words l = AsFar l.bytes l.rest l.words

abbrev pub decreases-words : goal.decreases-words
decreases-words l = length l.rest
