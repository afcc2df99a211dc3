use Rattle.std.proofs.Common.{rules}
use Rattle.std.proofs.lemmas.Fn.{filter_same}
use Rattle.flat_core.specs.Purging.{has_xkey, is_spared}
use Rattle.flat_core.proofs.purging.drop_xkeys.Goals as goal

pub returns : goal.returns
returns c = filter_same _ (is_spared c.args.moment (has_xkey c.args.keys.now)) _ (λ x b f' k. search rules) _ _ c.retain.ensures.filtered
