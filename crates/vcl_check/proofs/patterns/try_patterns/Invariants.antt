use Rattle.std.proofs.Common.{take}
use Rattle.vcl_check.specs.Texts.{AreTried}
use Rattle.vcl_check.proofs.patterns.try_patterns.Given as goal

abbrev pub invariant-loop-mention : goal.invariant-loop-mention
invariant-loop-mention l = AreTried (take l.mention-index l.mentions) l.places.items l.patterns.items
