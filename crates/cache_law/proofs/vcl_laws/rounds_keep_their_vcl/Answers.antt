use Rattle.cache_law.proofs.RoundVcls.{round_keeps}
use Rattle.cache_law.proofs.vcl_laws.rounds_keep_their_vcl.Goals as goal

pub returns : goal.returns
returns c = round_keeps
