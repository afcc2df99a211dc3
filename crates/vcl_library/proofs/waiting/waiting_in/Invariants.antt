use Rattle.std.proofs.Common.{◌≡◌, drop}
use Rattle.vcl_library.specs.Waiting.{waiting_in}
use Rattle.vcl_library.proofs.waiting.waiting_in.Given as goal

abbrev pub invariant-loop-one : goal.invariant-loop-one
invariant-loop-one l = waiting_in l.wanted (drop l.one-index l.limits) ≡ waiting_in l.wanted l.limits
