use Rattle.std.proofs.Common.{◌≡◌, ℕ, true, false, map, subst, refl, sym, ◌∙◌}
use Rattle.std.proofs.lemmas.Bool.{true≢false, not-false, not-true}
use Rattle.std.specs.BTreeSet.{contains, Updates}
use Rattle.std.specs.Ordering.{nat_cmp}
use Rattle.vmod_host.proofs.TagLemmas.{Met, Met-more, IsDistinct-met, twice-met, tag-at, tags-within, tags-whole}
use Rattle.vmod_host.proofs.table.has_twice.Goals as goal

pub returns-then-not-branch : goal.returns-then-not-branch
returns-then-not-branch c =
    let tag = tag-at c.args.entries.now c.loop-entry.entry-index c.entry-item.result c.loop-entry-test.true c.entry-item.is in
    let P : ℕ → Type 0 = λ t. contains nat_cmp c.loop-entry.tags t ≡ true in
    let met = subst P (sym tag) (not-false _ (sym c.in_ok-insert.ensures.added ∙ c.if-not-branch.true)) in
    let within = tags-within c.args.entries.now c.loop-entry.entry-index c.loop-entry-test.true in
    (λ distinct. absurd (twice-met _ _ c.loop-entry.tags within c.loop-entry.invariant met distinct), λ e. absurd (true≢false e))

pub loop-entry-preserved : goal.loop-entry-preserved
loop-entry-preserved c =
    let tag = tag-at c.args.entries.now c.loop-entry.entry-index c.entry-item.result c.loop-entry-test.true c.entry-item.is in
    let lacks : ℕ → Type 0 = λ t. contains nat_cmp c.loop-entry.tags t ≡ false in
    let changes : ℕ → Type 0 = λ t. Updates nat_cmp c.loop-entry.tags c.insert.new.self t true in
    Met-more _ _ c.loop-entry.tags c.insert.new.self c.loop-entry.invariant (subst lacks (sym tag) (not-true _ (sym c.in_ok-insert.ensures.added ∙ c.if-not-branch.false))) (subst changes (sym tag) c.in_ok-insert.ensures.updates)

pub returns : goal.returns
returns c =
    let whole = tags-whole c.args.entries.now c.loop-entry.entry-index c.loop-entry.auto.entry-index-end c.loop-entry-test.false in
    let met : ℕ → Type 0 = λ n. Met (map (λ entry. entry.tag) c.args.entries.now) n c.loop-entry.tags in
    (λ distinct. refl, λ e. IsDistinct-met _ c.loop-entry.tags (subst met whole c.loop-entry.invariant))
