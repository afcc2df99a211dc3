use Rattle.std.proofs.Common.{length}
use Rattle.vcl_language.proofs.names.+is_field_of.Given as goal

-- the front gets shorter
abbrev pub decreases-is_field_of : goal.decreases-is_field_of
decreases-is_field_of l = length l.front.now
