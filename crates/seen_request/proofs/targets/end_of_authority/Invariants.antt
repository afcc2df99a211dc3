-- What was passed ends no authority.
use Rattle.std.proofs.Common.{◌≡◌, ◌≤◌, ◌+◌, ◌-◌, length, drop}
use Rattle.std.specs.List.{position_or_len}
use Rattle.seen_request.specs.Targets.{ends_authority}
use Rattle.seen_request.proofs.targets.end_of_authority.Given as goal

abbrev pub invariant-loop-place : goal.invariant-loop-place
invariant-loop-place l = record {
  within : l.place ≤ length l.rest;
  others : l.place + position_or_len ends_authority (drop l.place l.rest) ≡ position_or_len ends_authority l.rest;
}

abbrev pub decreases-loop-place : goal.decreases-loop-place
decreases-loop-place l = length l.rest - l.place
