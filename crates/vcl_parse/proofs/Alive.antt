-- Whatever is wanted, some tokens are that.
use Rattle.std.proofs.Common.{List, [], ◌∷◌, refl}
use Rattle.std.specs.Prelude.{pos}
use Rattle.vcl_tree.specs.Numbers.{opposite}
use Rattle.vcl_tree.specs.Phrase.{Phrase, Nothing, Named, String, Integer, Node, Set, Bound, Branch, Else, NoBackend, Called}
use Rattle.vcl_tree.specs.declared.token.Token.{Token}
use Rattle.vcl_tree.specs.declared.token.Sign.TheVariants as sign
use Rattle.vcl_tree.specs.declared.token.Word.TheVariants as word
use Rattle.vcl_tree.specs.Tokens.{a_sign, a_word, a_name, a_string, an_integer, plain_name, new_name, string}
use Rattle.vcl_tree.specs.ExpressionGrammar.{IsExpression, IsConjunction, IsNegation, IsComparison, IsSum, conjunction, negation, comparison, sum, term, integer_term, minus_integer, call, no_arguments, next_argument}
use Rattle.vcl_tree.specs.StatementGrammar.{IsBlock, block, no_statements, set, conditional, otherwise, return, branch}
use Rattle.vcl_tree.specs.AttributeGrammar.{no_attributes, integer_value, nested}
use Rattle.vcl_tree.specs.Grammar as grammar
use Rattle.vcl_tree.specs.Grammar.{no_entries, no_backend, probe, acl}
use Rattle.vcl_parse.specs.Machine.{Part, Tail, Want, Take, AnyName, NewName, Number, Read, Go, Join, Any, All, Negation, Comparing, Sum, Term, Negated, Arguments, Argument, Assignment, Ending, Condition, Block, AfterElse, Value, Attributes, BackendBody, Address, Entries, MoreAny, MoreAll, Compares, MoreSum, Calls, FirstArgument, MoreArguments, MoreStatements, MoreElse, MoreAttributes, Semicolon, MoreEntries, Mask, MoreItems}
use Rattle.vcl_parse.proofs.Meaning.{Stack, push, pop, joined, Fits, under, Carries, Sem}

abbrev digit : Token
digit = an_integer (pos 1) 0

abbrev a : Phrase
a = Integer 0 (pos 1)

one_sum : (rest : List Token) → IsSum a (digit ∷ rest) rest
one_sum rest = term integer_term

one_comparison : (rest : List Token) → IsComparison a (digit ∷ rest) rest
one_comparison rest = sum (one_sum rest)

one_negation : (rest : List Token) → IsNegation a (digit ∷ rest) rest
one_negation rest = comparison (one_comparison rest)

one_conjunction : (rest : List Token) → IsConjunction a (digit ∷ rest) rest
one_conjunction rest = negation (one_negation rest)

one_expression : (rest : List Token) → IsExpression a (digit ∷ rest) rest
one_expression rest = conjunction (one_conjunction rest)

empty_block : (rest : List Token) → IsBlock Nothing (a_sign sign.OpenBrace 0 ∷ a_sign sign.CloseBrace 0 ∷ rest) rest
empty_block rest = block no_statements

-- a phrase and, for each rest, tokens before it that fit the part
fitting : (part : Part) (v : Stack) → (e : Phrase) × ((rest : List Token) → (ts : List Token) × Fits part v e ts rest)
fitting Any v = (a, λ rest. (digit ∷ rest, one_expression rest))
fitting All v = (a, λ rest. (digit ∷ rest, one_conjunction rest))
fitting Negation v = (a, λ rest. (digit ∷ rest, one_negation rest))
fitting Comparing v = (a, λ rest. (digit ∷ rest, one_comparison rest))
fitting Sum v = (a, λ rest. (digit ∷ rest, one_sum rest))
fitting Term v = (a, λ rest. (digit ∷ rest, integer_term))
fitting (Negated p) v = (Integer p (opposite (pos 1)), λ rest. (digit ∷ rest, minus_integer))
fitting (Arguments w) v = (Nothing, λ rest. (a_sign sign.OpenParenthesis 0 ∷ a_sign sign.CloseParenthesis 0 ∷ rest, no_arguments))
fitting (Argument w) v = (a, λ rest. (digit ∷ rest, λ l start p before. next_argument before (one_expression rest)))
fitting Assignment v = (
  Node Set (v 1) (Node Bound (v 0) a),
  λ rest. (a_sign sign.Assign 0 ∷ digit ∷ a_sign sign.Semicolon 0 ∷ rest, λ x t p n e. rw e (set n (one_expression (a_sign sign.Semicolon 0 ∷ rest)))),
)
fitting Ending v = (v 0, λ rest. (a_sign sign.CloseParenthesis 0 ∷ a_sign sign.Semicolon 0 ∷ rest, λ x t p q n. return n))
fitting Condition v = (
  Node Branch a Nothing,
  λ rest. (a_sign sign.OpenParenthesis 0 ∷ digit ∷ a_sign sign.CloseParenthesis 0 ∷ a_sign sign.OpenBrace 0 ∷ a_sign sign.CloseBrace 0 ∷ rest, branch (one_expression _) (empty_block rest)),
)
fitting Block v = (Nothing, λ rest. (a_sign sign.OpenBrace 0 ∷ a_sign sign.CloseBrace 0 ∷ rest, empty_block rest))
fitting AfterElse v = (Node Else (v 0) Nothing, λ rest. (a_sign sign.OpenBrace 0 ∷ a_sign sign.CloseBrace 0 ∷ rest, λ start t p before. otherwise before (empty_block rest)))
fitting Value v = (a, λ rest. (digit ∷ a_sign sign.Semicolon 0 ∷ rest, integer_value))
fitting Attributes v = (Nothing, λ rest. (a_sign sign.OpenBrace 0 ∷ a_sign sign.CloseBrace 0 ∷ rest, λ b x t p n. probe n no_attributes))
fitting BackendBody v = (Node NoBackend (v 1) (v 0), λ rest. (a_word word.None [] 0 ∷ a_sign sign.Semicolon 0 ∷ rest, λ x t p n e. rw e (no_backend n)))
fitting Address v = (String 0 [], λ rest. (a_string [] 0 ∷ a_sign sign.Semicolon 0 ∷ rest, (0, grammar.whole string)))
fitting Entries v = (Nothing, λ rest. (a_sign sign.OpenBrace 0 ∷ a_sign sign.CloseBrace 0 ∷ rest, λ b x t p n. acl n no_entries))

ending : (tail : Tail) (b : Phrase) → (e : Phrase) × ((rest : List Token) → (ts : List Token) × Carries tail b e ts rest)
ending MoreAny b = (b, λ rest. (rest, λ start before. before))
ending MoreAll b = (b, λ rest. (rest, λ start before. before))
ending Compares b = (b, λ rest. (rest, λ start before. sum before))
ending MoreSum b = (b, λ rest. (rest, λ start before. before))
ending Calls b = (Node Called b Nothing, λ rest. (a_sign sign.OpenParenthesis 0 ∷ a_sign sign.CloseParenthesis 0 ∷ rest, λ x n. call n no_arguments))
ending (FirstArgument w) b = (Nothing, λ rest. (rest, λ n p q later e. rw e no_arguments))
ending (MoreArguments w) b = (b, λ rest. (rest, λ start before. before))
ending MoreStatements b = (b, λ rest. (rest, λ start before. before))
ending MoreElse b = (b, λ rest. (rest, λ start before. conditional before))
ending MoreAttributes b = (b, λ rest. (rest, λ start before. before))
ending Semicolon b = (b, λ rest. (rest, λ start before. nested before))
ending MoreEntries b = (b, λ rest. (rest, λ start before. before))
ending Mask b = (b, λ rest. (rest, λ x n. grammar.whole n))
ending MoreItems b = (b, λ rest. (rest, λ start before. before))

pub alive : (s : List Want) (v : Stack) → (ts : List Token) × (last : Stack) × Sem s v ts last
alive [] v = ([], v, (refl, refl))
alive (Take t ∷ s) v = let k = alive s v in (a_sign t 0 ∷ k.0, k.1, (0, k.0, refl, k.2))
alive (AnyName ∷ s) v = let k = alive s (push (Named 0 []) v) in (a_name [] 0 ∷ k.0, k.1, (Named 0 [], a_name [] 0, k.0, refl, plain_name, k.2))
alive (NewName ∷ s) v = let k = alive s (push (Named 0 []) v) in (a_name [] 0 ∷ k.0, k.1, (Named 0 [], a_name [] 0, k.0, refl, new_name, k.2))
alive (Number ∷ s) v = let k = alive s (push a v) in (digit ∷ k.0, k.1, (0, pos 1, k.0, refl, k.2))
alive (Read part ∷ s) v =
    let f = fitting part v in
    let k = alive s (push (f.0) (under part v)) in
    let g = f.1 (k.0) in
    (g.0, k.1, (f.0, k.0, g.1, k.2))
alive (Go tail ∷ s) v =
    let f = ending tail (v 0) in
    let k = alive s (push (f.0) (pop v)) in
    let g = f.1 (k.0) in
    (g.0, k.1, (f.0, k.0, g.1, k.2))
alive (Join l ∷ s) v = alive s (joined l v)
