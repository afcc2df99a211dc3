use Rattle.std.proofs.Common.{◌≡◌, ◌++◌, drop, filter_map, map}
use Rattle.vcl_check.specs.Texts.{pattern_of}
use Rattle.vcl_check.proofs.patterns.pattern_texts.Given as goal

abbrev pub invariant-loop-mention : goal.invariant-loop-mention
invariant-loop-mention l = map (λ text. text.now) l.texts.items ++ filter_map pattern_of (drop l.mention-index l.mentions) ≡ filter_map pattern_of l.mentions
