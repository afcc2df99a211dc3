-- What was passed has been put behind.
use Rattle.std.proofs.Common.{◌≡◌, ◌++◌, length}
use Rattle.client_task.specs.BanWords.{words_of}
use Rattle.client_task.proofs.ban_words.push_words.Given as goal

abbrev pub invariant-loop-behind : goal.invariant-loop-behind
invariant-loop-behind l = l.out.items ++ words_of l.rest ≡ l.fn.out.items ++ words_of l.text

abbrev pub decreases-loop-behind : goal.decreases-loop-behind
decreases-loop-behind l = length l.rest
