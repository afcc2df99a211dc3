use Rattle.vcl_meaning.proofs.Texts.{compiled-run}
use Rattle.vcl_meaning.proofs.laws.numbers_run.Goals as goal

pub returns : goal.returns
returns c =
    compiled-run c.args.program.now.code c.args.program.now.program.tree.items c.args.program.now.program.stored c.args.program.now.numbered c.compiled_falls.ensures.nodes
    c.compiled_falls.ensures.branches
