-- What was passed isn't the tag.
use Rattle.std.proofs.Common.{◌≡◌, length}
use Rattle.freshness.specs.Validators.{lists as has_tag}
use Rattle.freshness.proofs.tags.lists.Given as goal

abbrev pub invariant-loop-behind : goal.invariant-loop-behind
invariant-loop-behind l = has_tag l.tag l.rest ≡ has_tag l.tag l.list

abbrev pub decreases-loop-behind : goal.decreases-loop-behind
decreases-loop-behind l = length l.rest
