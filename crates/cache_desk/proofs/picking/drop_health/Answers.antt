use Rattle.std.proofs.Common.{rules, not}
use Rattle.std.proofs.lemmas.Fn.{filter_same}
use Rattle.cache_law.specs.declared.vcl.ForcedHealth.{ForcedHealth}
use Rattle.cache_law.specs.Targets.{is_health_of}
use Rattle.cache_desk.proofs.picking.drop_health.Goals as goal

pub returns-clause-items : goal.returns-clause-items
returns-clause-items c = filter_same _ (λ (forced : ForcedHealth). not (is_health_of c.args.vcl c.args.backend.now forced)) _ (λ x b f' k. search rules) _ _ c.retain.ensures.filtered
