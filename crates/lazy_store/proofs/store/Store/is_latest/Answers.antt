use Rattle.std.proofs.Common.{sym, subst}
use Rattle.lazy_law.specs.Placed.{Lazy}
use Rattle.lazy_store.specs.Uses.{AreUsedBefore}
use Rattle.lazy_store.proofs.Again.{latest_so, latest_there}
use Rattle.lazy_store.proofs.store.Store.is_latest.Goals as goal

pub returns : goal.returns
returns c = (
  (λ yes.
      subst (λ (lazy : Lazy). AreUsedBefore c.args.used lazy.objects) c.self.view_is (latest_so c.args.used c.self.inside.room c.self.inside.heads c.self.invariant.room_ (c.is_latest.ensures.0 yes))),
  (λ before.
      c.is_latest.ensures.1
      (latest_there c.args.used c.self.inside.room c.self.inside.heads c.self.invariant.room_ (subst (λ (lazy : Lazy). AreUsedBefore c.args.used lazy.objects) (sym c.self.view_is) before))),
)
