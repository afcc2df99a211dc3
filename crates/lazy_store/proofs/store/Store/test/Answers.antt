use Rattle.lazy_store.proofs.Sweeps.{marks_within}
use Rattle.lazy_store.proofs.store.Store.test.Goals as goal

pub move_to-requires-clause-later : goal.move_to-requires-clause-later
move_to-requires-clause-later c =
    marks_within c.args.number c.args.self.now.issued c.issued-issued.result c.args.self.now.objects c.issued-issued.ensures.within c.issued-issued.ensures.count
