use Rattle.std.proofs.Common.{sym}
use Rattle.lazy_law.specs.Insertion.{has_number}
use Rattle.lazy_law.specs.Stands.{IsWithin as TestedUpTo}
use Rattle.lazy_store.specs.Members.{placed_in}
use Rattle.lazy_store.proofs.Sweeps.{holds_found}
use Rattle.lazy_insert.proofs.place.place_at.Goals as goal

pub returns-in-Some-clause-within : goal.returns-in-Some-clause-within
returns-in-Some-clause-within c =
    (holds_found (TestedUpTo c.args.store.now.issued) (has_number c.args.number) c.args.store.now.objects (placed_in c.in-Some.item.now) c.issued-issued.ensures.within (sym c.in-Some.ensures.found)).place
