-- What was passed are no colons.
use Rattle.std.proofs.Common.{◌≡◌, ◌≤◌, ◌+◌, ◌-◌, length, drop}
use Rattle.std.specs.List.{position_or_len}
use Rattle.vcl_attributes.specs.Address.{is_colon}
use Rattle.vcl_attributes.proofs.address.colon_place.Given as goal

abbrev pub invariant-loop-place : goal.invariant-loop-place
invariant-loop-place l = record {
  within : l.place ≤ length l.text;
  others : l.place + position_or_len is_colon (drop l.place l.text) ≡ position_or_len is_colon l.text;
}

abbrev pub decreases-loop-place : goal.decreases-loop-place
decreases-loop-place l = length l.text - l.place
