use Rattle.std.proofs.Common.{◌≡◌, ℕ, false, Option, sym, ◌∙◌, subst}
use Rattle.lazy_law.specs.Placed.{kept_bans}
use Rattle.lazy_law.specs.Insertion.{is_gone_late, place_for}
use Rattle.lazy_insert.proofs.Placing.{place_gone, place_there}
use Rattle.lazy_insert.proofs.place.place_for.Goals as goal

pub returns-then-gone-clause-value : goal.returns-then-gone-clause-value
returns-then-gone-clause-value c = c.issued.ensures.count ∙ place_gone c.args.moment c.args.stale c.args.store.now (sym c.in_ok-gone.ensures ∙ c.if-gone.true)

pub returns-in-Some-clause-value : goal.returns-in-Some-clause-value
returns-in-Some-clause-value c =
    subst (λ (stale : Option ℕ). c.place_at.result ≡ place_for c.args.moment (kept_bans c.args.store.now) c.args.store.now.issued stale c.args.store.now.objects) (sym c.in-Some.is)
    (c.place_at.ensures.value
    ∙ place_there c.args.moment c.in-Some.number c.args.store.now c.place_at.ensures.apart
    (subst (λ (stale : Option ℕ). is_gone_late c.args.moment (kept_bans c.args.store.now) stale c.args.store.now.objects ≡ false) c.in-Some.is (sym c.in_ok-gone.ensures ∙ c.if-gone.false)))
