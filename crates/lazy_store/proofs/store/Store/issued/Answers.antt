use Rattle.std.proofs.Common.{subst}
use Rattle.std.specs.List.{AllByRecursion}
use Rattle.lazy_law.specs.Placed.{Lazy}
use Rattle.lazy_law.specs.Stands.{IsWithin as TestedUpTo}
use Rattle.lazy_store.proofs.Findings.{within_placed}
use Rattle.lazy_store.proofs.store.Store.issued.Goals as goal

pub returns-clause-within : goal.returns-clause-within
returns-clause-within c =
    subst (λ (lazy : Lazy). AllByRecursion (TestedUpTo lazy.issued) lazy.objects) c.self.view_is (within_placed c.self.inside.bans.issued c.self.inside.heads c.self.invariant.within)
