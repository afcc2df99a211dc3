use Rattle.std.proofs.Common.{◌≡◌, ℕ, take}
use Rattle.std.specs.Ordering.{nat_cmp}
use Rattle.std.specs.BTreeSet.{contains, IsOrdered}
use Rattle.xkey_index.specs.Handles.{is_under_one}
use Rattle.xkey_index.proofs.handles.find_all.Given as goal

abbrev pub invariant-loop-key : goal.invariant-loop-key
invariant-loop-key l = record {
  ordered : IsOrdered nat_cmp l.found;
  found : (handle : ℕ) → contains nat_cmp l.found handle ≡ is_under_one l.handles (take l.key-index l.keys) handle;
}
