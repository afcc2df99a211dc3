-- The reader follows the bytes that were taken.
use Rattle.std.proofs.Common.{◌≡◌, ◌⊎◌, length, ◌-◌, ◌≤◌, take, None}
use Rattle.http_bodies.specs.Reading.{Follows, refusal}
use Rattle.measure.proofs.count.feed_pieces.Given as goal

abbrev pub invariant-loop-at : goal.invariant-loop-at
invariant-loop-at l = record {
  within : l.at ≤ length l.input;
  follows : Follows l.fn.reader l.reader (take l.at l.input);
  kept : (refusal l.reader ≡ refusal l.fn.reader) ⊎ (refusal l.reader ≡ None);
}

abbrev pub decreases-loop-at : goal.decreases-loop-at
decreases-loop-at l = length l.input - l.at
