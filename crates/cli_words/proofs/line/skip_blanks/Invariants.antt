use Rattle.std.proofs.Common.{◌≡◌, ℕ, ◌<◌, get_or, true}
use Rattle.cli_words.specs.Words.{is_blank}
use Rattle.cli_words.proofs.line.skip_blanks.Given as goal

abbrev pub invariant-loop-place : goal.invariant-loop-place
invariant-loop-place l = (k : ℕ) → k < l.place → is_blank (get_or l.bytes k 0) ≡ true
