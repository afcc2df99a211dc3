use Rattle.std.proofs.Common.{nat_eq}
use Rattle.xkey_index.specs.Handles.{is_under}
use Rattle.xkey_index.proofs.HandleLemmas.{removes_more}
use Rattle.xkey_index.proofs.handles.remove_all.Goals as goal

pub loop-key-preserved : goal.loop-key-preserved
loop-key-preserved c = λ key other.
    removes_more c.args.keys.now c.loop-key.key-index c.key-item.result key
    (is_under c.args.handles.now key other) (is_under c.loop-key.handles key other) (is_under c.remove.new.handles key other) (nat_eq c.args.handle other)
    c.loop-key-test.true c.key-item.is (c.loop-key.invariant key other) (c.remove.ensures key other)
