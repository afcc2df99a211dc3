use Rattle.std.proofs.Common.{◌≡◌, ◌++◌, drop, filter_map}
use Rattle.vcl_program.specs.Declarations.{director_of}
use Rattle.vcl_program.proofs.declarations.directors_of.Given as goal

abbrev pub invariant-loop-mention : goal.invariant-loop-mention
invariant-loop-mention l = l.out ++ filter_map director_of (drop l.mention-index l.said) ≡ filter_map director_of l.said
