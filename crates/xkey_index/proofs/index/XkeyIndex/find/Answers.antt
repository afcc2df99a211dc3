use Rattle.std.proofs.Common.{◌≡◌, ◌∙◌}
use Rattle.std.specs.Ordering.{nat_cmp}
use Rattle.std.specs.BTreeMap as tree
use Rattle.xkey_index.specs.Handles.{is_owned, is_under}
use Rattle.xkey_index.specs.Members.{handles_with}
use Rattle.xkey_index.proofs.HandleLemmas.{any_same}
use Rattle.xkey_index.proofs.MemberLemmas.{found_handles}
use Rattle.xkey_index.proofs.index.XkeyIndex.find.Goals as goal

pub returns : goal.returns
returns c =
    let found : c.in_ok-found.found.keys ≡ handles_with c.args.keys.now c.self.inside.keys.entries =
    found_handles c.args.keys.now c.self.inside.keys.entries c.in_ok-found.found c.self.invariant.0 c.in_ok-found.ensures.ordered
    (λ q. c.in_ok-found.ensures.found q
    ∙ any_same (λ key. is_under c.self.inside.handles key q) (λ key. is_owned (tree.get nat_cmp c.self.inside.keys q) key) c.args.keys.now (λ key. c.self.invariant.1 key q)) in
    rw (← c.self.view_is, ← found) c.listed.ensures
