use Rattle.cache_law.proofs.Fields.{few_from}
use Rattle.cache_law.proofs.laws.fields_stay_few.Goals as goal

pub returns : goal.returns
returns c = λ most beginning entries few hands. few_from most beginning.params beginning.base entries few hands
