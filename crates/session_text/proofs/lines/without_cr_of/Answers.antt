use Rattle.std.proofs.Common.{arith, sym}
use Rattle.session_text.proofs.Cuts.{cr_dropped, cr_kept}
use Rattle.session_text.proofs.lines.without_cr_of.Goals as goal

pub returns-then-body-len-eq13 : goal.returns-then-body-len-eq13
returns-then-body-len-eq13 c = sym (cr_dropped c.args.body.now _ (omega arith) c.if-body-len-eq13.true)

pub returns : goal.returns
returns c = sym (cr_kept c.args.body.now _ (omega arith) c.if-body-len-eq13.false)
