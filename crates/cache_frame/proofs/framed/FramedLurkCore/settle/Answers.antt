use Rattle.cache_frame.proofs.Steps.{still_sound}
use Rattle.cache_frame.proofs.framed.FramedLurkCore.settle.Goals as goal

pub invariant_of-self : goal.invariant_of-self
invariant_of-self g c =
    still_sound g.S.Shelf.Stands _ _ _ _ _ _ _ c.self.invariant (λ sound. c.settle.ensures.stands _ _ sound (rw (← c.self.view_is) at c.requires.found))
