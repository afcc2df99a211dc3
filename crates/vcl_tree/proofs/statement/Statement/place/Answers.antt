use Rattle.std.proofs.Common.{refl}
use Rattle.vcl_tree.specs.Phrase.{If, ElseIf, At, Node, chain}
use Rattle.vcl_tree.proofs.ChainPlaces.{chain_place, else_place}
use Rattle.vcl_tree.proofs.statement.Statement.place.Goals as goal

pub returns-in-If : goal.returns-in-If
returns-in-If c =
    let front = Node If (At c.in-If.place) (c.in-If.field-1).value in
    rw (← c.self.view_is, c.in-If.is) (else_place (chain ElseIf front (c.in-If.field-2).items) c.in-If.field-3 c.in-If.place (chain_place ElseIf front (c.in-If.field-2).items c.in-If.place refl))
