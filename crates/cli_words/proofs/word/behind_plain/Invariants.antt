use Rattle.std.proofs.Common.{List, ℕ, length, ◌<◌}
use Rattle.cli_words.specs.Words.{ReadsPlain}
use Rattle.cli_words.proofs.word.behind_plain.Given as goal

abbrev pub invariant-pieces : goal.invariant-pieces
invariant-pieces l = (word : List ℕ) × (0 < length word) × ReadsPlain word l.start l.rest × (length l.rest < length l.start)

abbrev pub decreases-pieces : goal.decreases-pieces
decreases-pieces l = length l.rest
