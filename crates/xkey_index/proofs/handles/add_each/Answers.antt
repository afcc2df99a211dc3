use Rattle.std.proofs.Common.{◌≡◌, ℕ, ◌||◌}
use Rattle.std.specs.Ordering.{nat_cmp}
use Rattle.std.specs.BTreeSet.{contains, IsOrdered}
use Rattle.std.proofs.lemmas.Iterator.Adapters.{items_from_extend}
use Rattle.std.proofs.lemmas.Iterator.Consumers.{YieldsList-from_copied, YieldsList-from_rest}
use Rattle.xkey_index.proofs.HandleLemmas.{first_given}
use Rattle.xkey_index.proofs.handles.add_each.Goals as goal

pub returns-clause-found : goal.returns-clause-found
returns-clause-found c =
    let h = items_from_extend c.extend.result c.extend.ensures.ran (YieldsList-from_copied (YieldsList-from_rest c.args.under.now.keys cc)) in
    first_given c.extend.result ((handle : ℕ) → contains nat_cmp c.extend.new.self handle ≡ (contains nat_cmp c.args.found.now handle || contains nat_cmp c.args.under.now handle)) (IsOrdered nat_cmp c.extend.new.self) h
