use Rattle.std.proofs.Common.{◌≡◌, ◌++◌, drop}
use Rattle.vcl_check.specs.Acls.{networks}
use Rattle.vcl_check.proofs.acls.networks.Given as goal

abbrev pub invariant-loop-entry : goal.invariant-loop-entry
invariant-loop-entry l = l.out ++ networks (drop l.entry-index l.entries) ≡ networks l.entries
