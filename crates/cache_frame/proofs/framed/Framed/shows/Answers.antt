use Rattle.cache_law.specs.Beginning.{Beginning}
use Rattle.cache_frame.specs.Framed.{base_with}
use Rattle.cache_frame.proofs.Steps.{sound_before}
use Rattle.cache_frame.proofs.framed.Framed.shows.Goals as goal

pub returns : goal.returns
returns g c =
    let beginning : Beginning = record { params = c.self.inside.params; base = base_with c.self.inside.base_desk.value (g.S.Shelf.stock c.self.inside.base_shelf.value) } in
    rw (← c.self.view_is)
    (c.shows.ensures beginning c.self.inside.entries.items (sound_before g.S.Shelf.Stands beginning c.self.inside.entries.items _ _ _ _ c.self.invariant) c.self.invariant.shelf (rw (← c.self.view_is) at c.requires))
