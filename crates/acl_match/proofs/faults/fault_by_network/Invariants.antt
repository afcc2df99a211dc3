use Rattle.std.proofs.Common.{take}
use Rattle.acl_match.specs.Acl.{AllShort}
use Rattle.acl_match.specs.Signs.{Records}
use Rattle.acl_match.proofs.faults.fault_by_network.Given as goal

abbrev pub invariant-loop-place : goal.invariant-loop-place
invariant-loop-place l = record { short : AllShort (take l.place l.entries); recorded : Records (take l.place l.entries) l.signs }
