use Rattle.std.proofs.Common.{refl}
use Rattle.vcl_parse.proofs.Trees.{same_tree, not_wrong}
use Rattle.vcl_parse.proofs.Faults.{same_fault}
use Rattle.vcl_tokens.proofs.ReadingLemmas.{one}
use Rattle.vcl_parse.proofs.parsing.one_tree.Goals as goal

pub returns : goal.returns
returns c = record {
  one = λ text tokens others a b r s h k. same_tree tokens others a b (one r s refl refl) h k;
  one_fault = λ end tokens why other place elsewhere h k. same_fault end tokens why other place elsewhere h k;
  no_fault = λ end tokens a why place h k. not_wrong end tokens a why place h k;
}
