-- Each branch and each block of a statement has fewer parts than the statement.
use Rattle.std.specs.Prelude.{◌≤◌, max, Some, None}
use Rattle.std.proofs.Common.{arith}
use Rattle.vcl_tree.specs.Phrase.{Node, If, At, ElseIf, phrase_size}
use Rattle.vcl_tree.specs.ExpressionFalls.{chain_longer, most_chain}
use Rattle.vcl_tree.specs.StatementView.{statement_of}
use Rattle.vcl_tree.specs.declared.statement.Action.{Action}
use Rattle.vcl_tree.specs.declared.statement.Action.TheVariants as action
use Rattle.vcl_tree.specs.declared.statement.Block.TheDeep.{deep-Action}

pub falls : (o : Action) → max (deep-Action o) 0 ≤ phrase_size (statement_of o)
falls (action.Set place name value) = omega arith
falls (action.Append place name value) = omega arith
falls (action.Unset place name) = omega arith
falls (action.Call place name) = omega arith
falls (action.New place name maker arguments) = omega arith
falls (action.If place first others None) = let front = Node If (At place) first.value in omega (arith, chain_longer ElseIf front others.items, most_chain ElseIf front others.items)
falls (action.If place first others (Some block)) = let front = Node If (At place) first.value in omega (arith, chain_longer ElseIf front others.items, most_chain ElseIf front others.items)
falls (action.Return place word) = omega arith
falls (action.ReturnWith place word arguments) = omega arith
falls (action.Run name arguments) = omega arith
