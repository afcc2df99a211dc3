use Rattle.vcl_operands.proofs.Binds.{some-before}
use Rattle.vcl_eval.specs.RunStates.{ended}
use Rattle.vcl_eval.specs.Returns.{plain}
use Rattle.vcl_eval.proofs.statements.ends_plain.Goals as goal

pub plain-requires : goal.plain-requires
plain-requires c = some-before ended (plain c.args.word) c.requires
