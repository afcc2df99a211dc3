use Rattle.std.proofs.Common.{List, Some, sym, ap}
use Rattle.vcl_tree.specs.Phrase.{Phrase}
use Rattle.vcl_probes.proofs.PartsOfLists.{parts-list}
use Rattle.vcl_probes.proofs.bodies.nested_body.Goals as goal

pub returns : goal.returns
returns c = ap (λ (l : List Phrase). Some l) (sym (parts-list c.args.attributes.now))
