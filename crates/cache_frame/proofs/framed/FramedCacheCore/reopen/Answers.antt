use Rattle.std.proofs.Common.{rules}
use Rattle.std.specs.Vec.{vec_capacity}
use Rattle.cache_law.specs.Beginning.{Beginning}
use Rattle.cache_law.specs.Bases.{IsClosed}
use Rattle.cache_law.specs.History.{reached}
use Rattle.cache_frame.specs.Framed.{base_with}
use Rattle.cache_frame.specs.Shelves.{StandsOn}
use Rattle.cache_frame.proofs.Steps.{reopened, still_sound}
use Rattle.cache_frame.proofs.framed.FramedCacheCore.reopen.Goals as goal

pub invariant_of-core : goal.invariant_of-core
invariant_of-core g c =
    let on : StandsOn g.S.Shelf.Stands c.self.inside.shelf c.cut.new.self = search rules in
    still_sound g.S.Shelf.Stands _ _ _ _ _ _ _ c.self.invariant (on _ _)

pub over-requires-clause-base : goal.over-requires-clause-base
over-requires-clause-base g c =
    let beginning : Beginning = record { params = c.self.inside.params; base = base_with c.self.inside.base_desk.value (g.S.Shelf.stock c.self.inside.base_shelf.value) } in
    let closed : IsClosed (reached beginning c.self.inside.entries.items) = rw (← c.self.view_is) at c.requires.closed in
    let opens = reopened g.S.Shelf.Stands beginning c.self.inside.entries.items (vec_capacity c.self.inside.entries) c.self.inside.used c.self.inside.desk c.self.inside.shelf c.cut.new.self c.self.invariant (g.S.Shelf.stock c.cut.new.self) c.moment.result c.moment.ensures closed (search rules) in
    opens.base

pub over-requires-clause-stands : goal.over-requires-clause-stands
over-requires-clause-stands g c =
    let beginning : Beginning = record { params = c.self.inside.params; base = base_with c.self.inside.base_desk.value (g.S.Shelf.stock c.self.inside.base_shelf.value) } in
    let closed : IsClosed (reached beginning c.self.inside.entries.items) = rw (← c.self.view_is) at c.requires.closed in
    let opens = reopened g.S.Shelf.Stands beginning c.self.inside.entries.items (vec_capacity c.self.inside.entries) c.self.inside.used c.self.inside.desk c.self.inside.shelf c.cut.new.self c.self.invariant (g.S.Shelf.stock c.cut.new.self) c.moment.result c.moment.ensures closed (search rules) in
    opens.stands

pub returns-clause-alike : goal.returns-clause-alike
returns-clause-alike g c =
    let beginning : Beginning = record { params = c.self.inside.params; base = base_with c.self.inside.base_desk.value (g.S.Shelf.stock c.self.inside.base_shelf.value) } in
    let closed : IsClosed (reached beginning c.self.inside.entries.items) = rw (← c.self.view_is) at c.requires.closed in
    let opens = reopened g.S.Shelf.Stands beginning c.self.inside.entries.items (vec_capacity c.self.inside.entries) c.self.inside.used c.self.inside.desk c.self.inside.shelf c.cut.new.self c.self.invariant (g.S.Shelf.stock c.cut.new.self) c.moment.result c.moment.ensures closed (search rules) in
    rw (← c.self.view_is, c.over.ensures) opens.alike
