use Rattle.std.proofs.Common.{◌∙◌, ap, sym, subst, ◌||◌, Some}
use Rattle.std.specs.Prelude.{nat_eq}
use Rattle.std.specs.Ordering.{nat_cmp}
use Rattle.std.specs.BTreeSet.{contains}
use Rattle.object_heads.proofs.HeadLemmas.{Puts, adds_by, one_more, empty_set}
use Rattle.object_heads.proofs.by_name.add_first.Goals as goal

pub returns-clause-ok : goal.returns-clause-ok
returns-clause-ok c =
    let puts = subst (λ name. Puts c.args.heads.now name (Some c.insert.new.self) c.insert-2.new.self) c.in_ok-copy.ensures c.in_ok-insert-2.ensures.updates.0 in
    adds_by c.args.heads.now c.insert-2.new.self c.args.name.now (Some c.insert.new.self) c.args.handle puts
    (λ other. one_more (contains nat_cmp c.new-under.result) (contains nat_cmp c.insert.new.self) c.args.handle c.in_ok-insert.ensures.updates.0 other
    ∙ ap (λ b. b || nat_eq c.args.handle other) (empty_set c.new-under.result c.new-under.ensures.empty other ∙ sym (c.requires other)))
