use Rattle.cache_frame.proofs.Steps.{sound_before}
use Rattle.cache_frame.proofs.framed.FramedLurkCore.chore.Goals as goal

pub returns-clause-work : goal.returns-clause-work
returns-clause-work g c = rw (← c.self.view_is) (c.chore.ensures.work _ _ (sound_before g.S.Shelf.Stands _ _ _ _ _ _ c.self.invariant) c.self.invariant.shelf)
