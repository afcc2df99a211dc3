use Rattle.vcl_parse.proofs.Files.{tree_found}
use Rattle.vcl_parse.proofs.parsing.parse.Goals as goal

pub returns-in-Ok-body-clause-tree : goal.returns-in-Ok-body-clause-tree
returns-in-Ok-body-clause-tree c = (c.in_ok-found.found, c.in_ok-found.ensures.read, tree_found _ _ _ _ _ _ _ c.as_slice.ensures c.from_vec.ensures c.in-Ok.ensures c.in-Ok-body.ensures.read, c.in_ok-found.ensures.short)
