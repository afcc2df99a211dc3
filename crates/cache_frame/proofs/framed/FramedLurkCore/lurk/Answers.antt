use Rattle.cache_frame.proofs.Steps.{still_sound}
use Rattle.cache_frame.proofs.framed.FramedLurkCore.lurk.Goals as goal

pub invariant_of-self : goal.invariant_of-self
invariant_of-self g c = still_sound g.S.Shelf.Stands _ _ _ _ _ _ _ c.self.invariant (c.lurk.ensures.stands _ _)
