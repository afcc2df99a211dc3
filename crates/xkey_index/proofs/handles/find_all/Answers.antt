use Rattle.std.specs.Ordering.{nat_cmp}
use Rattle.std.specs.BTreeSet.{contains}
use Rattle.xkey_index.specs.Handles.{is_under}
use Rattle.xkey_index.proofs.HandleLemmas.{finds_more}
use Rattle.xkey_index.proofs.handles.find_all.Goals as goal

pub loop-key-preserved : goal.loop-key-preserved
loop-key-preserved c = record {
  ordered = c.in_ok-add_found.ensures.ordered;
  found = λ handle.
      finds_more (λ key. is_under c.args.handles.now key handle) c.args.keys.now c.loop-key.key-index c.key-item.result
      (contains nat_cmp c.loop-key.found handle) (contains nat_cmp c.add_found.new.found handle)
      c.loop-key-test.true c.key-item.is (c.loop-key.invariant.found handle) (c.in_ok-add_found.ensures.found handle);
}
