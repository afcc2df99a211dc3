use Rattle.vcl_operands.proofs.Binds.{some-before}
use Rattle.vcl_eval.specs.RunStates.{ended}
use Rattle.vcl_eval.specs.Returns.{with_two}
use Rattle.vcl_eval.proofs.statements.ends_with_two.Goals as goal

pub with_two-requires : goal.with_two-requires
with_two-requires c = some-before ended (with_two c.args.word c.args.status.now c.args.reason.now) c.requires
