use Rattle.std.proofs.Common.{take}
use Rattle.acl_match.specs.Acl.{IsSound}
use Rattle.acl_match.proofs.faults.fault_by_pair.Given as goal

abbrev pub invariant-loop-place : goal.invariant-loop-place
invariant-loop-place l = IsSound (take l.place l.entries)
