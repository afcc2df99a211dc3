use Rattle.std.proofs.Common.{refl}
use Rattle.std.specs.Fmt.{digits}
use Rattle.console_link.proofs.too_long.too_long.Goals as goal

pub returns : goal.returns
unfolding digits
returns c = refl
