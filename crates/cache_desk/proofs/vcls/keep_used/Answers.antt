use Rattle.std.proofs.Common.{rules}
use Rattle.std.proofs.lemmas.Fn.{filter_same}
use Rattle.cache_law.specs.Vcls.{stays}
use Rattle.cache_desk.proofs.vcls.keep_used.Goals as goal

pub returns : goal.returns
returns c = filter_same _ (stays c.args.rounds.now.items) _ (λ x b f' k. search rules) _ _ c.retain.ensures.filtered
