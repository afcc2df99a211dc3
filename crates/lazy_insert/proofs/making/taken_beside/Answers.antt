use Rattle.std.proofs.Common.{◌≡◌, ◌+◌, ◌-◌, ◌<◌, ◌^◌, ℕ, Option, Some, arith, ap, rules, sym, ◌∙◌, subst}
use Rattle.cache_law.specs.Object.{size_of}
use Rattle.lazy_law.specs.Insertion.{others_late, sizes_late}
use Rattle.lazy_store.specs.Members.{placed_in}
use Rattle.lazy_insert.proofs.Roomy.{sizes_all, sizes_without}
use Rattle.lazy_insert.proofs.making.taken_beside.Goals as goal

pub overflow_sub-result : goal.overflow_sub-result
overflow_sub-result c =
    let split = sizes_without c.in-Some.number (placed_in c.in-Some-item.item.now) c.args.store.now.objects c.in-Some-item.ensures.apart (sym c.in-Some-item.ensures.found) in
    let same = ap size_of c.deref.ensures in
    omega (arith, split, same, c.object_size.ensures, c.total.ensures, c.from-total.ensures)

pub returns-in-Some-item-clause-sum : goal.returns-in-Some-item-clause-sum
returns-in-Some-item-clause-sum c =
    let split = sizes_without c.in-Some.number (placed_in c.in-Some-item.item.now) c.args.store.now.objects c.in-Some-item.ensures.apart (sym c.in-Some-item.ensures.found) in
    let same = ap size_of c.deref.ensures in
    let low : c.total.result < 2 ^ 64 = search rules in
    let left : c.from-total.result - c.object_size.result ≡ sizes_late (others_late (Some c.in-Some.number) c.args.store.now.objects) =
    omega (arith, split, same, low, c.object_size.ensures, c.total.ensures, c.from-total.ensures) in
    subst (λ (stale : Option ℕ). c.from-total.result - c.object_size.result ≡ sizes_late (others_late stale c.args.store.now.objects)) (sym c.in-Some.is) left

pub returns-in-None-item-clause-sum : goal.returns-in-None-item-clause-sum
returns-in-None-item-clause-sum c =
    subst (λ (stale : Option ℕ). c.from-total.result ≡ sizes_late (others_late stale c.args.store.now.objects)) (sym c.in-Some.is)
    (c.from-total.ensures ∙ c.total.ensures ∙ sizes_all c.in-Some.number c.args.store.now.objects (sym c.in-None-item.ensures.found))
