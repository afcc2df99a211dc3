-- Nothing was counted so far.
use Rattle.std.proofs.Common.{◌≡◌}
use Rattle.entrance.proofs.door.Door.enter.Given as goal

abbrev pub invariant-asking : goal.invariant-asking
invariant-asking g l = record {
  accepted : l.accepted.amount ≡ l.fn.accepted.amount;
  left : l.left.amount ≡ l.fn.left.amount;
  accepted_parts : l.accepted.parts ≡ l.fn.accepted.parts;
  left_parts : l.left.parts ≡ l.fn.left.parts;
}
