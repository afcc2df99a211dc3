use Rattle.std.proofs.Common.{◌≡◌, ◌∷◌, ◌<◌, ◌+◌, ◌*◌, List, length}
use Rattle.vcl_tree.specs.Phrase.{Phrase, Either, Both, chain, list_of}
use Rattle.vcl_tree.specs.ExpressionView.{sum_of}
use Rattle.vcl_parse.specs.Machine.{Want, Read, Go, Any, All, Sum, Arguments, MoreAny, MoreAll, MoreSum, MoreArguments, Take, watch}
use Rattle.vcl_tree.specs.declared.token.Sign.TheVariants as sign
use Rattle.vcl_parse.proofs.expressions.+expression.Given as goal

abbrev pub decreases-any : goal.decreases-any
decreases-any l = 16 * length l.tokens.now + 8

abbrev pub decreases-all : goal.decreases-all
decreases-all l = 16 * length l.tokens.now + 7

abbrev pub decreases-negation : goal.decreases-negation
decreases-negation l = 16 * length l.tokens.now + 6

abbrev pub decreases-comparing : goal.decreases-comparing
decreases-comparing l = 16 * length l.tokens.now + 5

abbrev pub decreases-sum : goal.decreases-sum
decreases-sum l = 16 * length l.tokens.now + 4

abbrev pub decreases-term : goal.decreases-term
decreases-term l = 16 * length l.tokens.now + 3

abbrev pub decreases-plain_term : goal.decreases-plain_term
decreases-plain_term l = 16 * length l.tokens.now + 2

abbrev pub decreases-named : goal.decreases-named
decreases-named l = 16 * length l.tokens.now + 2

abbrev pub decreases-arguments : goal.decreases-arguments
decreases-arguments l = 16 * length l.tokens.now + 1

abbrev pub decreases-argument : goal.decreases-argument
decreases-argument l = 16 * length l.tokens.now + 9

abbrev pub invariant-any-loop-behind : goal.invariant-any-loop-behind
invariant-any-loop-behind l = record {
  shorter : length l.rest < length l.tokens;
  watched : (s : List Want) (vs : List Phrase) → watch l.depth (Read Any ∷ s) vs l.tokens ≡ watch l.depth (Go MoreAny ∷ s) (chain Either l.first l.others.items ∷ vs) l.rest;
}

abbrev pub decreases-any-loop-behind : goal.decreases-any-loop-behind
decreases-any-loop-behind l = length l.rest

abbrev pub invariant-all-loop-behind : goal.invariant-all-loop-behind
invariant-all-loop-behind l = record {
  shorter : length l.rest < length l.tokens;
  watched : (s : List Want) (vs : List Phrase) → watch l.depth (Read All ∷ s) vs l.tokens ≡ watch l.depth (Go MoreAll ∷ s) (chain Both l.first l.others.items ∷ vs) l.rest;
}

abbrev pub decreases-all-loop-behind : goal.decreases-all-loop-behind
decreases-all-loop-behind l = length l.rest

abbrev pub invariant-sum-loop-sign : goal.invariant-sum-loop-sign
invariant-sum-loop-sign l = record {
  shorter : length l.rest < length l.tokens;
  watched : (s : List Want) (vs : List Phrase) → watch l.depth (Read Sum ∷ s) vs l.tokens ≡ watch l.depth (Go MoreSum ∷ s) (sum_of l.first l.others.items ∷ vs) l.rest;
}

abbrev pub decreases-sum-loop-sign : goal.decreases-sum-loop-sign
decreases-sum-loop-sign l = length l.rest

abbrev pub invariant-arguments-loop-behind : goal.invariant-arguments-loop-behind
invariant-arguments-loop-behind l = record {
  shorter : length l.rest < length l.tokens;
  watched : (s : List Want) (vs : List Phrase) → watch l.depth (Read (Arguments l.weight) ∷ s) vs l.tokens ≡ watch l.deeper (Go (MoreArguments l.weight) ∷ Take sign.CloseParenthesis ∷ s) (list_of l.arguments.items ∷ vs) l.rest;
}

abbrev pub decreases-arguments-loop-behind : goal.decreases-arguments-loop-behind
decreases-arguments-loop-behind l = length l.rest
