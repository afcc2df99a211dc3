use Rattle.vcl_operands.proofs.Binds.{some-before}
use Rattle.vcl_eval.specs.RunStates.{ended}
use Rattle.vcl_eval.specs.Returns.{with_one}
use Rattle.vcl_eval.proofs.statements.ends_with_one.Goals as goal

pub with_one-requires : goal.with_one-requires
with_one-requires c = some-before ended (with_one c.args.word c.args.value.now) c.requires
