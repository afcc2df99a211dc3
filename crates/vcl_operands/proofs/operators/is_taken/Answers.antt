use Rattle.vcl_operands.proofs.Lists.{takes-is}
use Rattle.vcl_operands.proofs.operators.is_taken.Goals as goal

pub returns : goal.returns
returns c = takes-is c.args.acl.now c.args.address c.matches.result c.matches.ensures
