use Rattle.std.proofs.Common.{◌≡◌, drop, None}
use Rattle.vcl_check.specs.Declarations.{twice_said}
use Rattle.vcl_check.specs.Folded.{numbered}
use Rattle.vcl_check.proofs.declarations.twice_among.Given as goal

abbrev pub invariant-loop-number : goal.invariant-loop-number
invariant-loop-number l = numbered (twice_said l.names) l.number l.best (drop l.number l.declared) ≡ numbered (twice_said l.names) 0 None l.declared
