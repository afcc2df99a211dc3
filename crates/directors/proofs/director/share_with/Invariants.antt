use Rattle.std.proofs.Common.{◌≡◌, ◌+◌, take, sum}
use Rattle.directors.proofs.director.share_with.Given as goal

abbrev pub invariant-loop-place : goal.invariant-loop-place
invariant-loop-place l = sum (take l.place l.weights) + l.left ≡ l.number
