use Rattle.std.proofs.Common.{sym, subst}
use Rattle.vcl_program.specs.declared.code.Code.{Code}
use Rattle.vcl_program.specs.Codes.{code_of}
use Rattle.vcl_program.specs.Falling.{IsFalling, BranchesFall}
use Rattle.vcl_operands.specs.Falls.{Falls, ChoicesFall}
use Rattle.vcl_operands.proofs.Falling.{falls-of, choices-fall-of}
use Rattle.vcl_operands.proofs.laws.compiled_falls.Goals as goal

pub returns-clause-nodes : goal.returns-clause-nodes
returns-clause-nodes c =
    let f : IsFalling (code_of c.args.program.now.program.tree.items c.args.program.now.program.stored).arena.nodes = rw (c.as_slice-items.ensures, c.as_slice-stored.ensures) at c.code_falls.ensures in
    let P : Code → Type 0 = λ x. Falls x.arena.nodes in
    subst P (sym c.args.program.now.numbered) (falls-of (code_of c.args.program.now.program.tree.items c.args.program.now.program.stored).arena.nodes f)

pub returns-clause-branches : goal.returns-clause-branches
returns-clause-branches c =
    let f : BranchesFall (code_of c.args.program.now.program.tree.items c.args.program.now.program.stored).arena.branches = rw (c.as_slice-items.ensures, c.as_slice-stored.ensures) at c.branches_fall.ensures in
    let P : Code → Type 0 = λ x. ChoicesFall x.arena.branches in
    subst P (sym c.args.program.now.numbered) (choices-fall-of (code_of c.args.program.now.program.tree.items c.args.program.now.program.stored).arena.branches f)
