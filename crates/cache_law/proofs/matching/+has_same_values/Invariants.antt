use Rattle.std.proofs.Common.{length}
use Rattle.cache_law.proofs.matching.+has_same_values.Given as goal

abbrev pub decreases-has_same_values : goal.decreases-has_same_values
decreases-has_same_values l = length l.fields.now
