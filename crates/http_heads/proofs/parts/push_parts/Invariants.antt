-- What was passed has been put behind.
use Rattle.std.proofs.Common.{◌≡◌, ◌++◌, filter, length}
use Rattle.http_heads.specs.Lists.{is_full, parts}
use Rattle.http_heads.proofs.parts.push_parts.Given as goal

abbrev pub invariant-loop-behind : goal.invariant-loop-behind
invariant-loop-behind l =
    l.out.items ++ filter is_full (parts l.separators l.rest) ≡ l.fn.out.items ++ filter is_full (parts l.separators l.text)

abbrev pub decreases-loop-behind : goal.decreases-loop-behind
decreases-loop-behind l = length l.rest
