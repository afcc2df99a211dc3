use Rattle.std.proofs.Common.{◌≡◌, drop}
use Rattle.std.specs.List.{list_any}
use Rattle.flat_core.specs.Scans.{is_struck}
use Rattle.flat_core.specs.StoredObject.{since}
use Rattle.flat_core.proofs.matching.is_banned.Given as goal

-- no ban before this place matches, and all were issued behind those that the object was tested on
abbrev pub invariant-loop-place : goal.invariant-loop-place
invariant-loop-place l = list_any (is_struck l.kept.view.object l.request) (since l.kept.tested l.bans.items) ≡ list_any (is_struck l.kept.view.object l.request) (since l.kept.tested (drop l.place l.bans.items))
