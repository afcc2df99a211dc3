use Rattle.std.proofs.Common.{refl}
use Rattle.cache_frame.proofs.Results.{ok_map}
use Rattle.cache_frame.proofs.Steps.{stand_for}
use Rattle.cache_frame.proofs.framed.Framed.fits.Goals as goal

pub returns-in-ByLaw-clause-told : goal.returns-in-ByLaw-clause-told
returns-in-ByLaw-clause-told g c =
    rw (← c.self.view_is, c.in-ByLaw.is)
    (ok_map _ _ (λ fits is_. is_ _ _ (stand_for g.S.Shelf.Stands _ _ _ _ _ _ c.self.invariant) (rw (← c.self.view_is) at c.requires) refl) c.fits_by_law.result c.fits_by_law.ensures)
