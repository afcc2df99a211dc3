use Rattle.std.proofs.Common.{◌≤◌, ◌-◌}
use Rattle.backend_link.specs.Replies.{Behind}
use Rattle.backend_link.proofs.interim.pass_interim.Given as goal

-- so many interim replies are passed over
abbrev pub invariant-passing : goal.invariant-passing
invariant-passing l = (l.passed ≤ 8) × Behind l.passed l.bytes l.rest

abbrev pub decreases-passing : goal.decreases-passing
decreases-passing l = 8 - l.passed
