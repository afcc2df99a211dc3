use Rattle.std.proofs.Common.{◌≡◌, drop}
use Rattle.vcl_check.specs.Attributes.{probe_member}
use Rattle.vcl_check.specs.Folded.{numbered}
use Rattle.vcl_check.proofs.attributes.probe_fault.Given as goal

abbrev pub invariant-loop-number : goal.invariant-loop-number
invariant-loop-number l = numbered (probe_member l.tables l.names) l.number l.best (drop l.number l.attributes) ≡ numbered (probe_member l.tables l.names) 0 l.initial.best l.attributes
