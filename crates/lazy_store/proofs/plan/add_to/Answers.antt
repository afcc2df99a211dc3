use Rattle.std.proofs.Common.{◌≡◌, Some, None, ap, sym, ◌∙◌}
use Rattle.std.proofs.lemmas.List.{append-nil}
use Rattle.cache_law.specs.declared.object.Object.{Object}
use Rattle.lazy_store.specs.Members.{Member, at_number}
use Rattle.lazy_store.specs.Softening.{ending_to}
use Rattle.lazy_store.proofs.Findings.{find_lost, find_none, find_some}
use Rattle.lazy_store.proofs.Plans.{no_ending, no_object, one_ending, one_object}
use Rattle.lazy_store.proofs.plan.add_to.Goals as goal

pub returns-in_default-clause-endings : goal.returns-in_default-clause-endings
returns-in_default-clause-endings c =
    no_ending c.args.moment c.args.number c.args.heads.now c.args.plan.now.endings.items (find_none c.args.number c.args.heads.now c.requires c.in_default.ensures)

pub returns-in_default-clause-objects : goal.returns-in_default-clause-objects
returns-in_default-clause-objects c =
    no_object c.args.moment c.args.number c.args.heads.now c.args.plan.now.objects.items (find_none c.args.number c.args.heads.now c.requires c.in_default.ensures)

pub returns-in_default-get-clause-endings : goal.returns-in_default-get-clause-endings
returns-in_default-get-clause-endings c =
    no_ending c.args.moment c.args.number c.args.heads.now c.args.plan.now.endings.items
    (find_lost c.args.number c.in-Some.handle c.args.heads.now c.requires c.in-Some.ensures c.in_default-get.ensures)

pub returns-in_default-get-clause-objects : goal.returns-in_default-get-clause-objects
returns-in_default-get-clause-objects c =
    no_object c.args.moment c.args.number c.args.heads.now c.args.plan.now.objects.items
    (find_lost c.args.number c.in-Some.handle c.args.heads.now c.requires c.in-Some.ensures c.in_default-get.ensures)

pub returns-in_ok-push-2-clause-endings : goal.returns-in_ok-push-2-clause-endings
returns-in_ok-push-2-clause-endings c =
    let m : Member = (c.in-Some.handle, c.in-Some-get.item.now) in
    let found : at_number c.args.number c.args.heads.now ≡ Some m = find_some c.args.number c.in-Some.handle c.in-Some-get.item.now c.args.heads.now c.requires c.in-Some.ensures c.in-Some-get.ensures in
    c.in_ok-push-2.ensures.items
    ∙ one_ending c.args.moment c.args.number c.args.heads.now c.args.plan.now.endings.items m (Some c.in-Some-ending.ending) found
    (c.in-Some-ending.ensures ∙ ap (λ (o : Object). ending_to o c.in-Some.handle c.in-Some-get.item.now) (c.deref.ensures ∙ c.in_ok-object.ensures))

pub returns-in_ok-push-2-clause-objects : goal.returns-in_ok-push-2-clause-objects
returns-in_ok-push-2-clause-objects c =
    let m : Member = (c.in-Some.handle, c.in-Some-get.item.now) in
    let found : at_number c.args.number c.args.heads.now ≡ Some m = find_some c.args.number c.in-Some.handle c.in-Some-get.item.now c.args.heads.now c.requires c.in-Some.ensures c.in-Some-get.ensures in
    c.in_ok-push.ensures.items ∙ one_object c.args.moment c.args.number c.args.heads.now c.args.plan.now.objects.items m c.in_ok-object.object found c.in_ok-object.ensures

pub returns-in_default-ending-clause-endings : goal.returns-in_default-ending-clause-endings
returns-in_default-ending-clause-endings c =
    let m : Member = (c.in-Some.handle, c.in-Some-get.item.now) in
    let found : at_number c.args.number c.args.heads.now ≡ Some m = find_some c.args.number c.in-Some.handle c.in-Some-get.item.now c.args.heads.now c.requires c.in-Some.ensures c.in-Some-get.ensures in
    sym (append-nil c.args.plan.now.endings.items)
    ∙ one_ending c.args.moment c.args.number c.args.heads.now c.args.plan.now.endings.items m None found
    (c.in_default-ending.ensures ∙ ap (λ (o : Object). ending_to o c.in-Some.handle c.in-Some-get.item.now) (c.deref.ensures ∙ c.in_ok-object.ensures))

pub returns-in_default-ending-clause-objects : goal.returns-in_default-ending-clause-objects
returns-in_default-ending-clause-objects c =
    let m : Member = (c.in-Some.handle, c.in-Some-get.item.now) in
    let found : at_number c.args.number c.args.heads.now ≡ Some m = find_some c.args.number c.in-Some.handle c.in-Some-get.item.now c.args.heads.now c.requires c.in-Some.ensures c.in-Some-get.ensures in
    c.in_ok-push.ensures.items ∙ one_object c.args.moment c.args.number c.args.heads.now c.args.plan.now.objects.items m c.in_ok-object.object found c.in_ok-object.ensures
