use Rattle.std.proofs.Common.{ap, ◌∙◌}
use Rattle.lazy_law.specs.Placed.{Lazy}
use Rattle.lazy_law.specs.Insertion.{sizes_late}
use Rattle.lazy_store.proofs.Puttings.{total_is}
use Rattle.lazy_store.proofs.store.Store.total.Goals as goal

pub returns : goal.returns
returns c = c.total.ensures.sum ∙ total_is c.self.inside.room c.self.inside.heads c.self.invariant.room_ ∙ ap (λ (lazy : Lazy). sizes_late lazy.objects) c.self.view_is
