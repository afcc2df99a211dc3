-- The reader follows the bytes that were taken, and keeps what it kept before.
use Rattle.std.proofs.Common.{◌≡◌, ◌≤◌, ◌-◌, length, take}
use Rattle.http_bodies.specs.Reading.{Follows}
use Rattle.http_bodies.specs.Places.{IsSound}
use Rattle.http_bodies.proofs.reader.BodyReader.feed.Given as goal

abbrev pub invariant-loop-at : goal.invariant-loop-at
invariant-loop-at l = record {
  within : l.at ≤ length l.piece;
  follows : Follows l.fn.self l.self (take l.at l.piece);
  sound : IsSound l.self.place (l.self.limit - length l.self.kept);
  fits : length l.self.kept ≤ l.self.limit;
  keeps : take l.before l.self.kept ≡ l.fn.self.kept;
}

abbrev pub decreases-loop-at : goal.decreases-loop-at
decreases-loop-at l = length l.piece - l.at
