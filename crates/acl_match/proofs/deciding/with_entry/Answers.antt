use Rattle.std.proofs.Common.{refl, ◌≤◌, arith}
use Rattle.acl_match.proofs.DecisionLemmas.{Decides-push_last}
use Rattle.acl_match.proofs.deciding.with_entry.Goals as goal
use Rattle.acl_match.proofs.deciding.with_entry.Goals.{in_default-via-in-Some+else-entry-longest, in_default-via-in_default}

pub returns-then-holds : goal.returns-then-holds
returns-then-holds c = λ before decided. Decides-push_last before _ _ (c.if-holds.ensures.0 refl) (elim c.in_default.branch [
  | in_default-via-in-Some+else-entry-longest w ↦ let d = rw w.in-Some.is at decided in λ other listed holds. let below : other.mask ≤ w.in-Some.longest.now.mask = d.longest other listed holds in omega arith
  | in_default-via-in_default w ↦ let none = rw w.in_default.is at decided in λ other listed holds. absurd {0} (none other listed holds)
])
