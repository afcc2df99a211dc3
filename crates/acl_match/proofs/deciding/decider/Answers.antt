use Rattle.std.proofs.Common.{false, [], arith}
use Rattle.std.proofs.lemmas.List.{take_more, take_all}
use Rattle.std.proofs.lemmas.List.Elements.{Contains-get_or}
use Rattle.acl_match.proofs.deciding.decider.Goals as goal

pub with_entry-decided-requires : goal.with_entry-decided-requires
with_entry-decided-requires c = c.requires _ (Contains-get_or _ _ _ c.loop-entry-test.true)

pub loop-entry-preserved : goal.loop-entry-preserved
loop-entry-preserved c = rw (take_more c.args.entries.now c.loop-entry.entry-index (record { address = []; mask = 0; negated = false }) c.loop-entry-test.true) (c.with_entry-decided.ensures _ c.loop-entry.invariant)

pub returns : goal.returns
returns c = rw (take_all c.loop-entry.entry-index c.args.entries.now (omega arith)) at c.loop-entry.invariant
