use Rattle.std.proofs.Common.{◌≡◌, drop}
use Rattle.vcl_program.proofs.Lists.{further_members}
use Rattle.vcl_program.proofs.members.in_block.Given as goal

abbrev pub invariant-loop-statement : goal.invariant-loop-statement
invariant-loop-statement l = further_members l.names l.out (drop l.statement-index l.statement-items) ≡ further_members l.names l.initial.out l.statement-items
