-- What was passed belongs to the first part.
use Rattle.std.proofs.Common.{◌≡◌, take, drop, false}
use Rattle.freshness.specs.Validators.{parts}
use Rattle.freshness.proofs.Parts.{onto_front}
use Rattle.freshness.proofs.tags.first_part.Given as goal

abbrev pub invariant-loop-place : goal.invariant-loop-place
invariant-loop-place l = parts false l.list ≡ onto_front (take l.place l.list) (parts l.quoted (drop l.place l.list))
