use Rattle.std.proofs.Common.{rules, ◌==◌}
use Rattle.flat_core.specs.declared.stored_object.StoredObject.{StoredObject}
use Rattle.cache_desk.proofs.Passes.{find-front, find-behind}
use Rattle.flat_core.proofs.lists.kept_of.Goals as goal

pub returns-in-Some : goal.returns-in-Some
returns-in-Some c = find-front (λ (kept : StoredObject). kept.view.number == c.args.number) c.args.newer.now c.args.older.now _ c.in-Some.ensures

pub returns-in-None : goal.returns-in-None
returns-in-None c = find-behind (λ (kept : StoredObject). kept.view.number == c.args.number) c.args.newer.now c.args.older.now _ c.in-None.ensures (search rules)
