use Rattle.std.proofs.Common.{◌≡◌, ◌++◌, drop, filter}
use Rattle.vcl_check.specs.Declarations.{is_declared}
use Rattle.vcl_check.proofs.declarations.declarations.Given as goal

abbrev pub invariant-loop-mention : goal.invariant-loop-mention
invariant-loop-mention l = l.out.items ++ filter is_declared (drop l.mention-index l.mentions) ≡ filter is_declared l.mentions
