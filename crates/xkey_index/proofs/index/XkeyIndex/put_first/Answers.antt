use Rattle.std.proofs.Common.{◌∙◌, ap}
use Rattle.std.specs.Ordering.{nat_cmp}
use Rattle.std.specs.BTreeMap as tree
use Rattle.xkey_index.specs.Members.{IsNewest}
use Rattle.xkey_index.specs.Handles.{is_owned, is_under}
use Rattle.xkey_index.proofs.HandleLemmas.{index_more}
use Rattle.xkey_index.proofs.MemberLemmas.{get-newest, insert-newest}
use Rattle.xkey_index.proofs.index.XkeyIndex.put_first.Goals as goal

pub add_all-requires : goal.add_all-requires
add_all-requires c = λ key.
    let newest : IsNewest c.args.handle c.self.inside.keys.entries = rw c.self.view_is c.requires in
    c.self.invariant.1 key c.args.handle ∙ ap (λ own. is_owned own key) (get-newest c.args.handle c.self.inside.keys.entries newest)

pub invariant_of-self-in-Ok : goal.invariant_of-self-in-Ok
invariant_of-self-in-Ok c =
    let newest : IsNewest c.args.handle c.self.inside.keys.entries = rw c.self.view_is c.requires in (
      c.in-Ok.ensures.ordered,
      index_more (is_under c.self.inside.handles) (is_under c.add_all.new.handles) (tree.get nat_cmp c.self.inside.keys) (tree.get nat_cmp c.insert.new.self)
          c.args.handle c.args.keys c.as_slice.result.now c.as_slice.ensures c.in_ok-add_all.ensures.ok c.in-Ok.ensures.updates.0
          (get-newest c.args.handle c.self.inside.keys.entries newest) c.self.invariant.1,
    )

pub returns-in-Ok-clause-ok : goal.returns-in-Ok-clause-ok
returns-in-Ok-clause-ok c =
    let newest : IsNewest c.args.handle c.self.inside.keys.entries = rw c.self.view_is c.requires in
    let put = c.in-Ok.ensures.entries ∙ insert-newest c.args.handle c.args.keys c.self.inside.keys.entries newest in
    rw (← c.self.view_is) put
