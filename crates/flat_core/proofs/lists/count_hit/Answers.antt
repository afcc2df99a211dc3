use Rattle.std.proofs.Common.{rules, ◌≡◌, Some, None}
use Rattle.std.specs.List.{position}
use Rattle.flat_core.specs.StoredObject.{counted_at, is_of}
use Rattle.flat_core.proofs.Uses.{changed, unchanged}
use Rattle.flat_core.proofs.lists.count_hit.Goals as goal

pub returns-in-Some : goal.returns-in-Some
returns-in-Some c =
    let found : position (is_of c.args.moment c.args.number) c.args.objects.now.items ≡ Some c.in-Some.place = search rules in
    changed (is_of c.args.moment c.args.number) (counted_at c.args.used) c.args.objects.now.items c.in-Some.place c.index_mut.result.now c.count_in.new.kept found c.index_mut.ensures.value c.count_in.ensures

pub returns-in_default : goal.returns-in_default
returns-in_default c =
    let none_ : position (is_of c.args.moment c.args.number) c.args.objects.now.items ≡ None = search rules in
    unchanged (is_of c.args.moment c.args.number) (counted_at c.args.used) c.args.objects.now.items none_
