use Rattle.std.proofs.Common.{◌∙◌, sym, arith}
use Rattle.vcl_code.proofs.Chains.{second-three, second-other}
use Rattle.vcl_code.proofs.expressions.second_string.Goals as goal

pub returns-then-arguments-ne3 : goal.returns-then-arguments-ne3
returns-then-arguments-ne3 c = sym (second-other c.args.arguments.now c.if-arguments-ne3.true)

pub returns : goal.returns
returns c = c.string_of.ensures ∙ second-three c.args.arguments.now (omega arith) (omega arith) _ c.index-arguments-1.is
