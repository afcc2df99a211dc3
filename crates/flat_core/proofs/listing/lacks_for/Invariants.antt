use Rattle.std.proofs.Common.{◌≡◌, drop}
use Rattle.std.specs.List.{list_any}
use Rattle.flat_core.specs.Listing.{is_missing}
use Rattle.flat_core.specs.StoredObject.{since}
use Rattle.flat_core.proofs.listing.lacks_for.Given as goal

-- the lines lack no ban before this place, and all were issued behind those that the object was tested on
abbrev pub invariant-loop-place : goal.invariant-loop-place
invariant-loop-place l = list_any (is_missing l.lines) (since l.kept.tested l.bans.items) ≡ list_any (is_missing l.lines) (since l.kept.tested (drop l.place l.bans.items))
