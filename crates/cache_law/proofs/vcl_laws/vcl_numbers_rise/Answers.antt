use Rattle.cache_law.proofs.VclNumbers.{loads_rise}
use Rattle.cache_law.proofs.vcl_laws.vcl_numbers_rise.Goals as goal

pub returns : goal.returns
returns c = loads_rise
