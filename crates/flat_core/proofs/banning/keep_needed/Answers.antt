use Rattle.std.proofs.Common.{rules}
use Rattle.std.proofs.lemmas.Fn.{filter_same}
use Rattle.flat_core.specs.Banning.{is_needed}
use Rattle.flat_core.proofs.banning.keep_needed.Goals as goal

pub returns : goal.returns
returns c = filter_same _ (is_needed c.args.objects.now.items) _ (λ x b f' k. search rules) _ _ c.retain.ensures.filtered
