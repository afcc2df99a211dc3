use Rattle.std.proofs.Common.{◌≡◌, ◌∙◌, ap, sym, Some, map}
use Rattle.std.specs.Prelude.{nat_eq, option_map}
use Rattle.std.specs.Ordering.{nat_cmp}
use Rattle.std.specs.Map.{lookup}
use Rattle.std.specs.BTreeMap as tree
use Rattle.object_heads.specs.declared.heads.Kept.{Kept}
use Rattle.object_heads.specs.Members.{without}
use Rattle.object_heads.specs.Indexes.{same_name, is_under, is_at_number}
use Rattle.object_heads.specs.Kept.{IsNamed, member_of}
use Rattle.object_heads.proofs.IndexLemmas.{index_less, all_less}
use Rattle.object_heads.proofs.MemberLemmas.{shown-rest, shown-lookup}
use Rattle.object_heads.proofs.heads.Heads.take.Goals as goal

pub returns-in_err-name-clause-found : goal.returns-in_err-name-clause-found
returns-in_err-name-clause-found g c =
    let found =
    c.from_residual.ensures ∙ ap (option_map (λ (kept : Kept g.row.P.Denot). kept.item)) c.in_err-name.ensures.value
    ∙ sym (shown-lookup c.args.handle c.self.inside.items.entries) in
    rw (← c.self.view_is) found

pub returns-in_err-name-clause-rest : goal.returns-in_err-name-clause-rest
returns-in_err-name-clause-rest g c =
    let none = ap (λ es. lookup (tree.is_at (nat_cmp c.args.handle)) es) (sym c.remove.ensures.entries) ∙ c.remove.ensures.updates.1 in
    let rest = ap (map member_of) c.remove.ensures.entries ∙ shown-rest c.args.handle c.self.inside.items.entries none in
    rest ∙ ap (without c.args.handle) c.self.view_is

pub invariant_of-self-2 : goal.invariant_of-self-2
invariant_of-self-2 g c =
    let old = tree.get nat_cmp c.self.inside.items in
    let new = tree.get nat_cmp c.remove.new.self in
    let kept : Kept g.row.P.Denot = c.in_ok-name.field-0 in
    let there : old c.args.handle ≡ Some kept = sym c.in_ok-name.ensures.value in
    record {
      ordered = c.remove.ensures.ordered;
      named = all_less IsNamed old new c.args.handle c.remove.ensures.updates.0 c.self.invariant.named;
      heads =
          index_less (λ (k : Kept g.row.P.Denot). same_name k.name) old new (is_under c.self.inside.places.heads) (is_under c.leave.new.self.heads) c.args.handle kept
          c.leave.ensures.heads c.remove.ensures.updates.0 there c.self.invariant.heads;
      numbers =
          index_less (λ (k : Kept g.row.P.Denot). nat_eq k.item.view.number) old new (is_at_number c.self.inside.places.numbers) (is_at_number c.leave.new.self.numbers) c.args.handle kept
          c.leave.ensures.numbers c.remove.ensures.updates.0 there c.self.invariant.numbers;
    }

pub returns-clause-found : goal.returns-clause-found
returns-clause-found g c =
    let found = ap (option_map (λ (kept : Kept g.row.P.Denot). kept.item)) c.in_ok-name.ensures.value ∙ sym (shown-lookup c.args.handle c.self.inside.items.entries) in
    rw (← c.self.view_is) found

pub returns-clause-rest : goal.returns-clause-rest
returns-clause-rest g c =
    let none = ap (λ es. lookup (tree.is_at (nat_cmp c.args.handle)) es) (sym c.remove.ensures.entries) ∙ c.remove.ensures.updates.1 in
    let rest = ap (map member_of) c.remove.ensures.entries ∙ shown-rest c.args.handle c.self.inside.items.entries none in
    rest ∙ ap (without c.args.handle) c.self.view_is
