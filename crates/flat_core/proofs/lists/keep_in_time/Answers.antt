use Rattle.std.proofs.Common.{rules}
use Rattle.std.proofs.lemmas.Fn.{filter_same}
use Rattle.cache_law.specs.Object.{in_time}
use Rattle.flat_core.specs.declared.stored_object.StoredObject.{StoredObject}
use Rattle.flat_core.proofs.Objects.{filter-all}
use Rattle.flat_core.proofs.lists.keep_in_time.Goals as goal

pub returns-then-not-are_in_time : goal.returns-then-not-are_in_time
returns-then-not-are_in_time c = filter_same _ (λ (kept : StoredObject). in_time c.args.moment kept.view.object) _ (λ x b f' k. search rules) _ _ c.retain.ensures.filtered

pub returns-else-not-are_in_time : goal.returns-else-not-are_in_time
returns-else-not-are_in_time c = filter-all _ _ (search rules)
