use Rattle.std.proofs.Common.{length}
use Rattle.vcl_context.proofs.names.+field_among.Given as goal

abbrev pub decreases-field_among : goal.decreases-field_among
decreases-field_among l = length l.fronts.now
