use Rattle.vcl_refusals.proofs.OneTree.{joined-one}
use Rattle.vcl_refusals.proofs.laws.one_joined_tree.Goals as goal

pub returns : goal.returns
returns c = joined-one
