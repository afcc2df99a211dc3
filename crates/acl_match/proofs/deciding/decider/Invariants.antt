use Rattle.std.proofs.Common.{take}
use Rattle.std.specs.Option.{option_copied}
use Rattle.acl_match.specs.Acl.{IsDecided}
use Rattle.acl_match.proofs.deciding.decider.Given as goal

abbrev pub invariant-loop-entry : goal.invariant-loop-entry
invariant-loop-entry l = IsDecided (take l.entry-index l.entries) l.address (option_copied l.decided)
