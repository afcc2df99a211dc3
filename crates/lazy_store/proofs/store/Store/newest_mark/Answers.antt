use Rattle.std.proofs.Common.{◌≡◌, ◌+◌, false, subst, arith}
use Rattle.lazy_law.specs.Placed.{Lazy, Placed, is_unswept, kept_bans, marked_at}
use Rattle.lazy_store.proofs.Fewer.{none_above}
use Rattle.lazy_store.proofs.store.Store.newest_mark.Goals as goal

pub returns-clause-swept : goal.returns-clause-swept
returns-clause-swept c =
    subst (λ (lazy : Lazy). (placed : Placed) → is_unswept (kept_bans lazy) (marked_at lazy.issued placed) ≡ false) c.self.view_is
    (λ placed. none_above (c.self.inside.bans.issued + 1) c.self.inside.bans.issued c.self.inside.bans.lines c.issued.ensures.in_order (omega arith))
