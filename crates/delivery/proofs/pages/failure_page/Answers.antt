use Rattle.std.proofs.Common.{refl}
use Rattle.delivery.proofs.pages.failure_page.Goals as goal

pub returns : goal.returns
returns c = rw (c.in_ok-of.ensures, c.reason.ensures, c.in_ok-with_field.ensures, c.in_ok-fields.ensures, c.new.ensures, c.in_ok-body.ensures) refl
