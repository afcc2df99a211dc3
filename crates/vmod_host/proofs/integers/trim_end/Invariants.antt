use Rattle.std.proofs.Common.{◌≡◌, length, reverse}
use Rattle.vmod_host.specs.Integers.{without_leading}
use Rattle.vmod_host.proofs.integers.trim_end.Given as goal

abbrev pub invariant-loop-last : goal.invariant-loop-last
invariant-loop-last l = without_leading (reverse l.rest) ≡ without_leading (reverse l.fn.text)

abbrev pub decreases-loop-last : goal.decreases-loop-last
decreases-loop-last l = length l.rest
