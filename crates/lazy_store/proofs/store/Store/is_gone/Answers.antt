use Rattle.std.proofs.Common.{ℕ, Option, not, ap, sym, ◌∙◌}
use Rattle.lazy_law.specs.Insertion.{is_gone_late}
use Rattle.lazy_law.specs.Placed.{kept_bans}
use Rattle.lazy_store.proofs.Numbers.{alive_there}
use Rattle.lazy_store.proofs.store.Store.is_gone.Goals as goal

pub returns-in_ok-is_alive_at-in-Some : goal.returns-in_ok-is_alive_at-in-Some
returns-in_ok-is_alive_at-in-Some c =
    ap not (c.in_ok-is_alive_at-in-Some.ensures.alive ∙ alive_there c.args.moment c.in-Some.number c.args.self.now c.in_ok-is_alive_at-in-Some.ensures.apart)
    ∙ ap (λ (stale : Option ℕ). is_gone_late c.args.moment (kept_bans c.args.self.now) stale c.args.self.now.objects) (sym c.in-Some.is)
