use Rattle.std.proofs.Common.{◌≡◌, ◌++◌, drop, filter}
use Rattle.vcl_check.specs.Declarations.{is_of_sort}
use Rattle.vcl_check.proofs.declarations.of_sort.Given as goal

abbrev pub invariant-loop-mention : goal.invariant-loop-mention
invariant-loop-mention l = l.out.items ++ filter (is_of_sort l.sort) (drop l.mention-index l.mentions) ≡ filter (is_of_sort l.sort) l.mentions
