use Rattle.std.proofs.Common.{length, ◌≤◌, ◌+◌}
use Rattle.cli_words.specs.Words.{ReadsPlain}
use Rattle.cli_words.proofs.word.read_plain.Given as goal

abbrev pub invariant-pieces : goal.invariant-pieces
invariant-pieces l = ReadsPlain l.word.items l.start l.rest × (length l.word.items + length l.rest ≤ length l.start)

abbrev pub decreases-pieces : goal.decreases-pieces
decreases-pieces l = length l.rest
