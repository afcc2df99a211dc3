use Rattle.vcl_check.proofs.SentenceLemmas.{sound-keeps}
use Rattle.vcl_check.proofs.laws.sound_keeps.Goals as goal

pub returns : goal.returns
returns c = sound-keeps
