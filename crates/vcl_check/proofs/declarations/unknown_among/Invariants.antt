use Rattle.std.proofs.Common.{◌≡◌, drop, None}
use Rattle.vcl_check.specs.Declarations.{unknown_said}
use Rattle.vcl_check.specs.Folded.{numbered}
use Rattle.vcl_check.proofs.declarations.unknown_among.Given as goal

abbrev pub invariant-loop-mention : goal.invariant-loop-mention
invariant-loop-mention l = numbered (unknown_said l.stored) l.mention-index l.best (drop l.mention-index l.mentions) ≡ numbered (unknown_said l.stored) 0 None l.mentions
