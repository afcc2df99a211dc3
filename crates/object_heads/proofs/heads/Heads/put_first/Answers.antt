use Rattle.std.proofs.Common.{◌∙◌, ap, subst, false, ◌∷◌, map}
use Rattle.std.specs.Prelude.{nat_eq}
use Rattle.std.specs.Ordering.{nat_cmp}
use Rattle.std.specs.Option.{option_map_or}
use Rattle.std.specs.BTreeMap as tree
use Rattle.cache_law.specs.Object.{key_of}
use Rattle.object_heads.specs.declared.heads.Kept.{Kept}
use Rattle.object_heads.specs.Members.{IsNewest, handle_at}
use Rattle.object_heads.specs.Names.{IsNameOf}
use Rattle.object_heads.specs.Indexes.{is_that, same_name, is_under, is_at_number}
use Rattle.object_heads.specs.Kept.{IsNamed, member_of}
use Rattle.object_heads.proofs.IndexLemmas.{index_more, all_more}
use Rattle.object_heads.proofs.MemberLemmas.{get-newest, insert-newest, newest_kept, found_by_number}
use Rattle.object_heads.proofs.heads.Heads.put_first.Goals as goal

pub enter-requires-clause-nowhere : goal.enter-requires-clause-nowhere
enter-requires-clause-nowhere g c = λ other.
    let newest : IsNewest c.args.handle (map member_of c.self.inside.items.entries) = rw c.self.view_is c.requires.newest in
    c.self.invariant.heads other c.args.handle
    ∙ ap (λ o. option_map_or (λ (kept : Kept g.row.P.Denot). same_name kept.name other) o false) (get-newest c.args.handle c.self.inside.items.entries (newest_kept c.args.handle c.self.inside.items.entries newest))

pub enter-requires-clause-free : goal.enter-requires-clause-free
enter-requires-clause-free g c = λ other.
    let number = c.args.item.view.number in
    let own = tree.get nat_cmp c.self.inside.places.numbers number in
    let found = found_by_number c.self.inside.items number own c.self.invariant.ordered (c.self.invariant.numbers number) in
    ap (λ o. is_that o other) (found ∙ ap (handle_at number) c.self.view_is ∙ c.requires.own)

pub invariant_of-self-in-Ok : goal.invariant_of-self-in-Ok
invariant_of-self-in-Ok g c =
    let newest : IsNewest c.args.handle (map member_of c.self.inside.items.entries) = rw c.self.view_is c.requires.newest in
    let none = get-newest c.args.handle c.self.inside.items.entries (newest_kept c.args.handle c.self.inside.items.entries newest) in
    let old = tree.get nat_cmp c.self.inside.items in
    let new = tree.get nat_cmp c.insert.new.self in
    let kept : Kept g.row.P.Denot = record { name = c.in_ok-name.name; item = c.args.item } in
    let named = subst (IsNameOf c.in_ok-name.name) (c.key.ensures ∙ ap key_of c.deref.ensures) c.in_ok-name.ensures in
    record {
      ordered = c.in-Ok.ensures.ordered;
      named = all_more IsNamed old new c.args.handle kept c.in-Ok.ensures.updates.0 named c.self.invariant.named;
      heads =
          index_more (λ (k : Kept g.row.P.Denot). same_name k.name) old new (is_under c.self.inside.places.heads) (is_under c.enter.new.self.heads) c.args.handle kept
          c.in_ok-enter.ensures.heads c.in-Ok.ensures.updates.0 none c.self.invariant.heads;
      numbers =
          index_more (λ (k : Kept g.row.P.Denot). nat_eq k.item.view.number) old new (is_at_number c.self.inside.places.numbers) (is_at_number c.enter.new.self.numbers) c.args.handle kept
          c.in_ok-enter.ensures.numbers c.in-Ok.ensures.updates.0 none c.self.invariant.numbers;
    }

pub returns-in-Ok-clause-ok : goal.returns-in-Ok-clause-ok
returns-in-Ok-clause-ok g c =
    let newest : IsNewest c.args.handle (map member_of c.self.inside.items.entries) = rw c.self.view_is c.requires.newest in
    let kept : Kept g.row.P.Denot = record { name = c.in_ok-name.name; item = c.args.item } in
    let put = c.in-Ok.ensures.entries ∙ insert-newest c.args.handle kept c.self.inside.items.entries (newest_kept c.args.handle c.self.inside.items.entries newest) in
    ap (map member_of) put ∙ ap (λ members. (c.args.handle, c.args.item) ∷ members) c.self.view_is
