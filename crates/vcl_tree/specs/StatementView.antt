-- What a clause sees of a statement.
use Rattle.std.specs.Prelude.{Option, Some, None}
use Rattle.vcl_tree.specs.Phrase.{Phrase, At, Named, Node, Bound, Called, Set, Append, Unset, Jump, New, Return, Branch, If, ElseIf, Else, chain, list_of}
use Rattle.vcl_tree.specs.declared.name.Name.{Name}
use Rattle.vcl_tree.specs.declared.statement.Action.{Action}
use Rattle.vcl_tree.specs.declared.statement.Action.TheVariants as action

abbrev pub name_of : Name → Phrase
name_of n = Named n.place n.text

-- a condition and its block
abbrev pub branch_of : Phrase → Phrase → Phrase
branch_of condition block = Node Branch condition block

-- branches, and the block behind an `else` if there is one
abbrev pub with_else : Phrase → Option Phrase → Phrase
with_else branches None = branches
with_else branches (Some block) = Node Else branches block

abbrev pub statement_of : Action → Phrase
statement_of (action.Set place name value) = Node Set (At place) (Node Bound (name_of name) value)
statement_of (action.Append place name value) = Node Append (At place) (Node Bound (name_of name) value)
statement_of (action.Unset place name) = Node Unset (At place) (name_of name)
statement_of (action.Call place name) = Node Jump (At place) (name_of name)
statement_of (action.New place name maker arguments) = Node New (At place) (Node Bound (name_of name) (Node Called (name_of maker) (list_of arguments.items)))
statement_of (action.If place first others otherwise) = with_else (chain ElseIf (Node If (At place) first.value) others.items) otherwise
statement_of (action.Return place word) = Node Return (At place) (name_of word)
statement_of (action.ReturnWith place word arguments) = Node Return (At place) (Node Called (name_of word) (list_of arguments.items))
statement_of (action.Run name arguments) = Node Called (name_of name) (list_of arguments.items)
