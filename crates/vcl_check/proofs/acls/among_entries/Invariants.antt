use Rattle.std.proofs.Common.{◌≡◌, drop, None}
use Rattle.vcl_check.specs.Acls.{entry_fault}
use Rattle.vcl_check.specs.Folded.{numbered}
use Rattle.vcl_check.proofs.acls.among_entries.Given as goal

abbrev pub invariant-loop-entry : goal.invariant-loop-entry
invariant-loop-entry l = numbered entry_fault l.entry-index l.best (drop l.entry-index l.entries) ≡ numbered entry_fault 0 None l.entries
