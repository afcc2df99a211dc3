use Rattle.std.proofs.Common.{rules, refl, ◌≡◌, ◌+◌, ◌∷◌, ap, ◌∙◌, List}
use Rattle.cache_law.specs.BansAtOnce.{issued_behind}
use Rattle.flat_core.specs.contracts.shelf.FlatShelf.{the_view}
use Rattle.flat_core.specs.declared.stored_object.Fate.{Fate}
use Rattle.flat_core.specs.StoredObject.{settled}
use Rattle.flat_core.proofs.Placings.{ban_moves}
use Rattle.flat_core.proofs.shelf.FlatShelfShelf.ban.Goals as goal

pub returns-clause-ok : goal.returns-clause-ok
returns-clause-ok c =
    let pushed : c.push_front.new.self.items ≡ issued_behind c.self.inside.issued c.args.moment c.args.ban.now ∷ c.self.inside.bans.items = search rules in
    rw (← c.self.view_is) (ban_moves (the_view c.self.inside) c.args.moment c.args.ban.now c.push_front.new.self.items c.settle.new.objects.items (c.self.inside.issued + 1) pushed refl (search rules))
