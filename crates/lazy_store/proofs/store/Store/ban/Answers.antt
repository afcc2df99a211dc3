use Rattle.std.proofs.Common.{sym, subst}
use Rattle.ban_list.specs.Bans.{Bans}
use Rattle.lazy_store.specs.Tied.{AreTied}
use Rattle.lazy_store.proofs.Bannings.{tied_by_object, tied_by_request}
use Rattle.lazy_store.proofs.store.Store.ban.Goals as goal

pub invariant_of-self-then-not-object_only : goal.invariant_of-self-then-not-object_only
invariant_of-self-then-not-object_only c =
    subst (λ (bans : Bans). AreTied c.self.inside.heads c.self.inside.tagged c.self.inside.room bans c.self.inside.newest c.self.inside.unswept) (sym c.in_ok-issue.ensures.ok)
    (tied_by_request c.args.moment c.args.ban.now c.self.inside.heads c.self.inside.tagged c.self.inside.room c.self.inside.bans c.self.inside.newest c.self.inside.unswept (cc) c.self.invariant)

pub invariant_of-self-2 : goal.invariant_of-self-2
invariant_of-self-2 c =
    rw (c.objects-self-inside.ensures, c.in_ok-issue.ensures.ok, c.issued-number.ensures.count)
    (tied_by_object c.args.moment c.args.ban.now c.self.inside.heads c.self.inside.tagged c.self.inside.room c.self.inside.bans c.self.inside.newest c.self.inside.unswept (cc) c.issued-number.ensures.in_order c.self.invariant)
