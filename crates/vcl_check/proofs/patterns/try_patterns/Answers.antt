use Rattle.std.proofs.lemmas.List.{take_more}
use Rattle.vcl_check.proofs.RefusedLemmas.{tried-none}
use Rattle.vcl_check.proofs.patterns.try_patterns.Goals as goal

pub loop-mention-init : goal.loop-mention-init
loop-mention-init c = rw (c.new-places.ensures.items, c.new-patterns.ensures.items) tried-none

pub loop-mention-preserved : goal.loop-mention-preserved
loop-mention-preserved c =
    rw (take_more c.args.mentions.now c.loop-mention.mention-index c.mention-item.result c.loop-mention-test.true, ← c.mention-item.is)
    (c.in_ok-try_pattern.ensures _ c.loop-mention.invariant)
