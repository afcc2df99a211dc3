use Rattle.std.proofs.Common.{◌==◌, not, rules}
use Rattle.std.proofs.lemmas.Fn.{filter_same}
use Rattle.cache_law.specs.declared.state.OpenFetch.{OpenFetch}
use Rattle.cache_desk.proofs.rounds.close_fetch.Goals as goal

pub returns : goal.returns
returns c = filter_same _ (λ (fetch : OpenFetch). not (fetch.token == c.args.token)) _ (λ x b f' k. search rules) _ _ c.retain.ensures.filtered
