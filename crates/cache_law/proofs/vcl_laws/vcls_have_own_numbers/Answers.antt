use Rattle.cache_law.proofs.Sound.{sound_from}
use Rattle.cache_law.proofs.VclsRise.{same_vcl}
use Rattle.cache_law.proofs.vcl_laws.vcls_have_own_numbers.Goals as goal

pub returns : goal.returns
returns c = λ beginning entries one other sound first second same. same_vcl one other _ (sound_from beginning.params beginning.base entries sound).rising first second same
