use Rattle.std.proofs.Common.{◌∙◌, ap, ◌||◌, Some}
use Rattle.std.specs.Prelude.{nat_eq}
use Rattle.std.specs.Ordering.{nat_cmp}
use Rattle.std.specs.BTreeSet.{contains}
use Rattle.object_heads.specs.Indexes.{IsSame, is_held, is_under}
use Rattle.object_heads.proofs.HeadLemmas.{adds_by, same_by, one_more, same_set, written, on_err}
use Rattle.object_heads.proofs.by_name.add.Goals as goal

pub returns-in_err-insert-in-Some-clause-err : goal.returns-in_err-insert-in-Some-clause-err
returns-in_err-insert-in-Some-clause-err c =
    let new = c.get_mut.follows.lender c.insert.new.self in
    let puts = written c.args.heads.now new c.args.name.now c.in-Some.under.now c.insert.new.self c.in-Some.ensures.value (c.get_mut.follows.holds c.insert.new.self) in
    on_err c.from_residual.result (IsSame (is_under c.args.heads.now) (is_under new))
    (same_by c.args.heads.now new c.args.name.now (Some c.insert.new.self) puts
    (λ other. same_set c.in-Some.under.now c.insert.new.self c.in_err-insert-in-Some.ensures.err other ∙ ap (λ o. is_held o other) c.in-Some.ensures.value))

pub returns-in_ok-insert-in-Some-clause-ok : goal.returns-in_ok-insert-in-Some-clause-ok
returns-in_ok-insert-in-Some-clause-ok c =
    let new = c.get_mut.follows.lender c.insert.new.self in
    let puts = written c.args.heads.now new c.args.name.now c.in-Some.under.now c.insert.new.self c.in-Some.ensures.value (c.get_mut.follows.holds c.insert.new.self) in
    adds_by c.args.heads.now new c.args.name.now (Some c.insert.new.self) c.args.handle puts
    (λ other. one_more (contains nat_cmp c.in-Some.under.now) (contains nat_cmp c.insert.new.self) c.args.handle c.in_ok-insert-in-Some.ensures.updates.0 other
    ∙ ap (λ o. is_held o other || nat_eq c.args.handle other) c.in-Some.ensures.value)
