use Rattle.std.proofs.Common.{length}
use Rattle.journal_reader.proofs.Going.{IsGoing}
use Rattle.journal_reader.proofs.front.words_of.Given as goal

abbrev pub decreases-words : goal.decreases-words
decreases-words l = length l.rest

abbrev pub invariant-words : goal.invariant-words
invariant-words l = IsGoing l.line l.rest l.words.items l.columns.items
