use Rattle.std.proofs.Common.{ap, ◌∙◌, List}
use Rattle.flat_core.specs.contracts.shelf.FlatShelf.{the_view}
use Rattle.flat_core.specs.declared.stored_object.StoredObject.{StoredObject}
use Rattle.flat_core.specs.declared.stored_object.Fate.{Fate}
use Rattle.flat_core.specs.StoredObject.{settled, using_in}
use Rattle.flat_core.proofs.Standing.{looks_over}
use Rattle.flat_core.proofs.shelf.FlatShelfShelf.take.Goals as goal

pub returns-clause-ok : goal.returns-clause-ok
returns-clause-ok c =
    rw (← c.self.view_is)
    (looks_over (the_view c.self.inside) _ c.args.used c.args.moment c.args._query.now c.args.used_as c.args.marks (rw (← c.self.view_is) at c.requires)
    (ap (λ (o : List StoredObject). record (the_view c.self.inside) { objects = o }) (c.use_one.ensures
    ∙ ap (using_in c.args.moment c.args.used c.args.used_as) c.settle.ensures
    ∙ ap (λ (f : List Fate). using_in c.args.moment c.args.used c.args.used_as (settled c.self.inside.issued f c.self.inside.objects.items)) c.as_slice.ensures)))
