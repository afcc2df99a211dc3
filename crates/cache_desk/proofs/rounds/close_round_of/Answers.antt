use Rattle.std.proofs.Common.{◌==◌, not, rules}
use Rattle.std.proofs.lemmas.Fn.{filter_same}
use Rattle.cache_law.specs.declared.state.OpenRound.{OpenRound}
use Rattle.cache_desk.proofs.rounds.close_round_of.Goals as goal

pub returns : goal.returns
returns c = filter_same _ (λ (round : OpenRound). not (round.caller == c.args.caller)) _ (λ x b f' k. search rules) _ _ c.retain.ensures.filtered
