use Rattle.std.proofs.Common.{◌≡◌, ◌∷◌, ◌<◌, ◌+◌, ◌*◌, List, length}
use Rattle.vcl_tree.specs.Phrase.{Phrase, Node, At, If, ElseIf, chain, list_of}
use Rattle.vcl_parse.specs.Machine.{Want, Read, Go, Join, Block, Condition, MoreElse, MoreStatements, Take, watch}
use Rattle.vcl_tree.specs.declared.token.Sign.TheVariants as sign
use Rattle.vcl_parse.proofs.statements.+statement.Given as goal

abbrev pub decreases-block : goal.decreases-block
decreases-block l = 4 * length l.tokens.now + 1

abbrev pub decreases-statement_at : goal.decreases-statement_at
decreases-statement_at l = 4 * length l.tokens.now

abbrev pub decreases-conditional : goal.decreases-conditional
decreases-conditional l = 4 * length l.tokens.now + 3

abbrev pub decreases-branch : goal.decreases-branch
decreases-branch l = 4 * length l.tokens.now + 2

abbrev pub invariant-block-statements : goal.invariant-block-statements
invariant-block-statements l = record {
  shorter : length l.rest < length l.tokens;
  watched : (s : List Want) (vs : List Phrase) → watch l.depth (Read Block ∷ s) vs l.tokens ≡ watch l.deeper (Go MoreStatements ∷ Take sign.CloseBrace ∷ s) (list_of l.statements.items ∷ vs) l.rest;
}

abbrev pub decreases-block-statements : goal.decreases-block-statements
decreases-block-statements l = length l.rest

abbrev pub invariant-conditional-branches : goal.invariant-conditional-branches
invariant-conditional-branches l = record {
  shorter : length l.rest < length l.tokens;
  watched : (s : List Want) (vs : List Phrase) → watch l.depth (Read Condition ∷ Join If ∷ Go MoreElse ∷ s) (At l.place ∷ vs) l.tokens ≡ watch l.depth (Go MoreElse ∷ s) (chain ElseIf (Node If (At l.place) l.first) l.others.items ∷ vs) l.rest;
}

abbrev pub decreases-conditional-branches : goal.decreases-conditional-branches
decreases-conditional-branches l = length l.rest
