use Rattle.std.proofs.Common.{◌≡◌, List, ℕ, filter, length, ap, sym, ◌∙◌, subst}
use Rattle.lazy_law.specs.Purging.{is_of_xkeys}
use Rattle.lazy_store.specs.Numbered.{is_alive_at, numbers_where, without_all}
use Rattle.lazy_store.specs.Softening.{is_dead_at, marked_all, softened_all}
use Rattle.lazy_store.specs.Tied.{AreApart}
use Rattle.lazy_store.proofs.SoftPurges.{alive_apart, purged_softly}
use Rattle.lazy_store.proofs.Numbers.{those_alive_are}
use Rattle.lazy_store.proofs.store.Store.soften.Goals as goal

pub soften_all-requires : goal.soften_all-requires
soften_all-requires c =
    let struck : c.deref.result.now ≡ numbers_where (is_of_xkeys c.args.keys.now) c.args.self.now.objects = c.deref.ensures.value ∙ c.in_ok-numbers.ensures.found in
    subst (AreApart (λ (n : ℕ). n)) (sym (c.as_slice-alive.ensures.value ∙ c.in_ok-fates.ensures.alive ∙ ap (filter (is_alive_at c.args.moment c.args.self.now)) struck))
    (alive_apart c.args.moment c.args.keys.now c.args.self.now c.in_ok-numbers.ensures.apart)

pub returns-clause-count : goal.returns-clause-count
returns-clause-count c =
    let struck : c.deref.result.now ≡ numbers_where (is_of_xkeys c.args.keys.now) c.args.self.now.objects = c.deref.ensures.value ∙ c.in_ok-numbers.ensures.found in
    ap length (c.as_slice-alive.ensures.value ∙ c.in_ok-fates.ensures.alive ∙ ap (filter (is_alive_at c.args.moment c.args.self.now)) struck)
    ∙ those_alive_are c.args.moment (is_of_xkeys c.args.keys.now) c.args.self.now c.in_ok-numbers.ensures.apart

pub returns-clause-ok : goal.returns-clause-ok
returns-clause-ok c =
    let struck : c.deref.result.now ≡ numbers_where (is_of_xkeys c.args.keys.now) c.args.self.now.objects = c.deref.ensures.value ∙ c.in_ok-numbers.ensures.found in
    let alive : List ℕ = c.as_slice-alive.result.now in
    let dead : List ℕ = c.as_slice.result.now in
    c.drop_all.ensures
    ∙ ap (without_all dead) (c.mark_all.ensures ∙ ap (marked_all alive) c.in_ok-soften_all.ensures.ok)
    ∙ ap (λ (ns : List ℕ). without_all dead (marked_all ns (softened_all c.args.moment ns c.args.self.now)))
    (c.as_slice-alive.ensures.value ∙ c.in_ok-fates.ensures.alive ∙ ap (filter (is_alive_at c.args.moment c.args.self.now)) struck)
    ∙ ap (λ (ns : List ℕ). without_all ns (marked_all (filter (is_alive_at c.args.moment c.args.self.now) (numbers_where (is_of_xkeys c.args.keys.now) c.args.self.now.objects))
    (softened_all c.args.moment (filter (is_alive_at c.args.moment c.args.self.now) (numbers_where (is_of_xkeys c.args.keys.now) c.args.self.now.objects)) c.args.self.now)))
    (c.as_slice.ensures.value ∙ c.in_ok-fates.ensures.dead ∙ ap (filter (is_dead_at c.args.moment c.args.self.now)) struck)
    ∙ purged_softly c.args.moment c.args.keys.now c.args.self.now c.in_ok-numbers.ensures.apart
