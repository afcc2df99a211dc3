use Rattle.std.proofs.Common.{rules, ◌≡◌, ◌∷◌, filter}
use Rattle.flat_core.specs.contracts.shelf.FlatShelf.{the_view}
use Rattle.flat_core.specs.StoredObject.{first_of}
use Rattle.flat_core.specs.Room.{stays_from}
use Rattle.flat_core.proofs.Placings.{full_places, late_places, refused_places, stored_places}
use Rattle.flat_core.proofs.shelf.FlatShelfShelf.insert.Goals as goal

pub returns-then-not-is_in_time : goal.returns-then-not-is_in_time
returns-then-not-is_in_time c = late_places c.args.self.now c.args.room c.args.used c.args.moment c.args.token c.args.object.now c.args.stale (search rules)

pub returns-in_default : goal.returns-in_default
returns-in_default c =
    rw (← c.self.view_is) (full_places (the_view c.self.inside) c.args.room c.args.used c.args.moment c.args.token c.args.object.now c.args.stale c.keep_in_time.new.objects.items c.keep_in_time.ensures (search rules) (search rules))

pub returns-then-is_err : goal.returns-then-is_err
returns-then-is_err c =
    let same : c.put_first-put.new.objects.items ≡ c.keep_in_time.new.objects.items = search rules in
    rw (← c.self.view_is, same) (refused_places (the_view c.self.inside) c.args.room c.args.used c.args.moment c.args.token c.args.object.now c.args.stale c.keep_in_time.new.objects.items c.keep_in_time.ensures)

pub returns : goal.returns
returns c =
    let first : c.put_first-put.new.objects.items ≡ first_of c.args.used c.args.token c.args.object.now c.args.stale c.self.inside.issued c.keep_in_time.new.objects.items ∷ filter (stays_from c.args.stale c.in-Some.bound) c.keep_in_time.new.objects.items = search rules in
    rw (← c.self.view_is)
    (stored_places (the_view c.self.inside) c.args.room c.args.used c.args.moment c.args.token c.args.object.now c.args.stale c.keep_in_time.new.objects.items c.keep_in_time.ensures (search rules) c.in-Some.bound (search rules) c.put_first-put.new.objects.items first)
