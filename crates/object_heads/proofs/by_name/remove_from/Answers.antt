use Rattle.std.proofs.Common.{◌≡◌, ◌∙◌, ap, sym, subst, Some, None, ◌&&◌, not}
use Rattle.std.specs.Prelude.{nat_eq}
use Rattle.std.specs.Ordering.{nat_cmp}
use Rattle.std.specs.BTreeMap.{get}
use Rattle.std.specs.BTreeSet.{contains}
use Rattle.object_heads.specs.Names.{name_cmp}
use Rattle.object_heads.specs.Indexes.{is_held, is_under, Removes, same_name}
use Rattle.object_heads.proofs.HeadLemmas.{removes_by, removes_none, one_less, written}
use Rattle.object_heads.proofs.by_name.remove_from.Goals as goal

pub returns-in-Some-clause-removed : goal.returns-in-Some-clause-removed
returns-in-Some-clause-removed c =
    let new = c.get_mut.follows.lender c.remove.new.self in
    let puts = written c.args.heads.now new c.args.name.now c.in-Some.under.now c.remove.new.self c.in-Some.ensures.value (c.get_mut.follows.holds c.remove.new.self) in
    removes_by c.args.heads.now new c.args.name.now (Some c.remove.new.self) c.args.handle puts
    (λ other. one_less (contains nat_cmp c.in-Some.under.now) (contains nat_cmp c.remove.new.self) c.args.handle c.remove.ensures.updates.0 other
    ∙ ap (λ o. is_held o other && not (nat_eq c.args.handle other)) c.in-Some.ensures.value)

pub returns-in-None-clause-removed : goal.returns-in-None-clause-removed
returns-in-None-clause-removed c =
    let none : get name_cmp c.args.heads.now c.args.name.now ≡ None = sym c.in-None.ensures.value in
    subst (λ heads. Removes (is_under c.args.heads.now) c.args.handle (same_name c.args.name.now) (is_under heads)) (sym c.get_mut.follows.holds-at-none)
    (removes_none c.args.heads.now c.args.name.now c.args.handle none)
