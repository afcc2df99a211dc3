use Rattle.std.proofs.Common.{refl}
use Rattle.delivery.proofs.opening.open_delivery.Goals as goal

pub returns : goal.returns
returns c =
    rw (c.in_ok-copy.ensures, c.in_ok-with_age.ensures, c.in_ok-fields.ensures, c.bytes.ensures, c.in_ok-text.ensures, c.in_ok-copied.ensures) refl
