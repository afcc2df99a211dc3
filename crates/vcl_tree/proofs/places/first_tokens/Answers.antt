use Rattle.vcl_tree.proofs.FirstTokens.{same, expression, statement}
use Rattle.vcl_tree.proofs.places.first_tokens.Goals as goal

pub returns-clause-expressions : goal.returns-clause-expressions
returns-clause-expressions c = λ e tokens rest h. same (expression h)

pub returns-clause-statements : goal.returns-clause-statements
returns-clause-statements c = λ s tokens rest h. same (statement h)
