use Rattle.std.proofs.Common.{◌≡◌, ◌++◌, drop, filter_map}
use Rattle.vcl_check.specs.Declarations.{symbol_of}
use Rattle.vcl_check.proofs.declarations.symbols_by.Given as goal

abbrev pub invariant-loop-mention : goal.invariant-loop-mention
invariant-loop-mention l = l.out.items ++ filter_map (symbol_of l.sorts) (drop l.mention-index l.mentions) ≡ filter_map (symbol_of l.sorts) l.mentions
