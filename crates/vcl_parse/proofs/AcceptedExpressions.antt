-- An expression of the grammar is passed by the reading of single tokens.
use Rattle.std.proofs.Common.{◌≡◌, ℕ, List, [], ◌∷◌, refl, ◌∙◌, subst}
use Rattle.std.specs.Prelude.{Bool, true, false, Some}
use Rattle.vcl_tree.specs.Phrase.{Phrase, Nothing, At, Weight, More, Either, Both, Not, Compared, Added, Subtracted, Group, Called}
use Rattle.vcl_tree.specs.declared.token.Token.{Token}
use Rattle.vcl_tree.specs.declared.token.Sign.{Sign}
use Rattle.vcl_tree.specs.declared.token.Sign.TheVariants as sign
use Rattle.vcl_tree.specs.declared.expression.Comparison.{Comparison}
use Rattle.vcl_tree.specs.declared.expression.Comparison.TheVariants as how
use Rattle.vcl_tree.specs.Signs.{first_is, comparison_of}
use Rattle.vcl_tree.specs.Endings.{has_zeros}
use Rattle.vcl_tree.specs.Tokens.{a_sign, a_decimal, IsName, plain_name, word_name}
use Rattle.vcl_tree.specs.ExpressionGrammar.{IsExpression, IsConjunction, IsNegation, IsComparison, IsSum, IsTerm, IsArguments, IsArgumentList, conjunction, either, negation, both, comparison, not, sum, compared, term, added, subtracted, side_by_side, group, string_term, integer_term, duration_term, minus_integer, minus_duration, variable, call, no_arguments, arguments, first_argument, next_argument, weight_argument}
use Rattle.vcl_parse.specs.Machine.{Want, Take, Read, Go, Join, Any, All, Negation, Comparing, Sum, Term, Arguments, Argument, MoreAny, MoreAll, Compares, MoreSum, Calls, FirstArgument, MoreArguments}
use Rattle.vcl_parse.proofs.Running.{run, EndsAt, join_on}

-- what holds where a term stands first, and behind a `!`, holds where an expression stands first
from_sum : (P : List Token → Type 0) → ((e : Phrase) (ts rest : List Token) → IsTerm e ts rest → P ts) → {e : Phrase} {ts rest : List Token} → IsSum e ts rest → P ts
from_sum P f (term {e} {ts} {rest} t) = f e ts rest t
from_sum P f (added a b) = from_sum P f a
from_sum P f (subtracted a b) = from_sum P f a
from_sum P f (side_by_side a e b) = from_sum P f a

from_comparison : (P : List Token → Type 0) → ((e : Phrase) (ts rest : List Token) → IsTerm e ts rest → P ts) → {e : Phrase} {ts rest : List Token} → IsComparison e ts rest → P ts
from_comparison P f (sum a) = from_sum P f a
from_comparison P f (compared a e b) = from_sum P f a

from_negation : (P : List Token → Type 0) → ((e : Phrase) (ts rest : List Token) → IsTerm e ts rest → P ts) → ((p : ℕ) (ts : List Token) → P (a_sign sign.Not p ∷ ts)) →
    {e : Phrase} {ts rest : List Token} → IsNegation e ts rest → P ts
from_negation P f g (comparison a) = from_comparison P f a
from_negation P f g (not {e} {ts} {rest} {p} a) = g p ts

from_conjunction : (P : List Token → Type 0) → ((e : Phrase) (ts rest : List Token) → IsTerm e ts rest → P ts) → ((p : ℕ) (ts : List Token) → P (a_sign sign.Not p ∷ ts)) →
    {e : Phrase} {ts rest : List Token} → IsConjunction e ts rest → P ts
from_conjunction P f g (negation a) = from_negation P f g a
from_conjunction P f g (both a b) = from_conjunction P f g a

from_expression : (P : List Token → Type 0) → ((e : Phrase) (ts rest : List Token) → IsTerm e ts rest → P ts) → ((p : ℕ) (ts : List Token) → P (a_sign sign.Not p ∷ ts)) →
    {e : Phrase} {ts rest : List Token} → IsExpression e ts rest → P ts
from_expression P f g (conjunction a) = from_conjunction P f g a
from_expression P f g (either a b) = from_expression P f g a

abbrev NotNegated : List Token → Type 0
NotNegated ts = (s : List Want) (vs : List Phrase) → run (Read Negation ∷ s) vs ts ≡ run (Read Comparing ∷ s) vs ts

name_not_negated : {e : Phrase} {x : Token} (ts : List Token) → IsName e x → NotNegated (x ∷ ts)
name_not_negated ts plain_name s vs = refl
name_not_negated ts word_name s vs = refl

term_not_negated : (e : Phrase) (ts rest : List Token) → IsTerm e ts rest → NotNegated ts
term_not_negated _ _ _ (group e) s vs = refl
term_not_negated _ _ _ string_term s vs = refl
term_not_negated _ _ _ integer_term s vs = refl
term_not_negated _ _ _ duration_term s vs = refl
term_not_negated _ _ _ minus_integer s vs = refl
term_not_negated _ _ _ minus_duration s vs = refl
term_not_negated _ _ _ (variable n e) s vs = name_not_negated _ n s vs
term_not_negated _ _ _ (call n l) s vs = name_not_negated _ n s vs

abbrev IsArgument : Bool → List Token → Type 0
IsArgument w ts = (s : List Want) (vs : List Phrase) → run (Go (FirstArgument w) ∷ s) vs ts ≡ run (Read Any ∷ Join More ∷ Go (MoreArguments w) ∷ s) vs ts

name_is_argument : (w : Bool) {e : Phrase} {x : Token} (ts : List Token) → IsName e x → IsArgument w (x ∷ ts)
name_is_argument w ts plain_name s vs = refl
name_is_argument w ts word_name s vs = refl

term_is_argument : (w : Bool) (e : Phrase) (ts rest : List Token) → IsTerm e ts rest → IsArgument w ts
term_is_argument w _ _ _ (group e) s vs = refl
term_is_argument w _ _ _ string_term s vs = refl
term_is_argument w _ _ _ integer_term s vs = refl
term_is_argument w _ _ _ duration_term s vs = refl
term_is_argument w _ _ _ minus_integer s vs = refl
term_is_argument w _ _ _ minus_duration s vs = refl
term_is_argument w _ _ _ (variable n e) s vs = name_is_argument w _ n s vs
term_is_argument w _ _ _ (call n l) s vs = name_is_argument w _ n s vs

-- a term behind another, with no sign between
abbrev IsBeside : List Token → Type 0
IsBeside ts = (s : List Want) (vs : List Phrase) → run (Go MoreSum ∷ s) vs ts ≡ run (Read Term ∷ Join Added ∷ Go MoreSum ∷ s) vs ts

name_beside : {e : Phrase} {x : Token} (ts : List Token) → IsName e x → IsBeside (x ∷ ts)
name_beside ts plain_name s vs = refl
name_beside ts word_name s vs = refl

term_beside : {e : Phrase} {ts rest : List Token} → IsTerm e ts rest → first_is sign.Minus ts ≡ false → IsBeside ts
term_beside (group a) e s vs = refl
term_beside string_term e s vs = refl
term_beside integer_term e s vs = refl
term_beside duration_term e s vs = refl
term_beside minus_integer e s vs = cc
term_beside minus_duration e s vs = cc
term_beside (variable n f) e s vs = name_beside _ n s vs
term_beside (call n l) e s vs = name_beside _ n s vs

name_as_term : {e : Phrase} {x : Token} (ts : List Token) (s : List Want) (vs : List Phrase) → IsName e x → run (Read Term ∷ s) vs (x ∷ ts) ≡ run (Go Calls ∷ s) (e ∷ vs) ts
name_as_term ts s vs plain_name = refl
name_as_term ts s vs word_name = refl

calls_end : (ts : List Token) → first_is sign.OpenParenthesis ts ≡ false → EndsAt Calls ts
calls_end [] e s vs = refl
calls_end (x ∷ ts) e s vs = rw e refl

open_calls : {w : Bool} {l : Phrase} {ts rest : List Token} (s : List Want) (vs : List Phrase) → IsArguments w l ts rest → run (Go Calls ∷ s) vs ts ≡ run (Read (Arguments false) ∷ Join Called ∷ s) vs ts
open_calls s vs no_arguments = refl
open_calls s vs (arguments l) = refl

compares_by : (u : Sign) (c : Comparison) (p : ℕ) (s : List Want) (vs : List Phrase) (ts : List Token) → comparison_of u ≡ Some c →
    run (Go MoreSum ∷ Go Compares ∷ s) vs (a_sign u p ∷ ts) ≡ run (Read Sum ∷ Join (Compared c) ∷ s) vs ts
compares_by sign.Equal c p s vs ts e = let same : how.Equal ≡ c = cc in subst (λ d. run (Go MoreSum ∷ Go Compares ∷ s) vs (a_sign sign.Equal p ∷ ts) ≡ run (Read Sum ∷ Join (Compared d) ∷ s) vs ts) same refl
compares_by sign.NotEqual c p s vs ts e = let same : how.NotEqual ≡ c = cc in subst (λ d. run (Go MoreSum ∷ Go Compares ∷ s) vs (a_sign sign.NotEqual p ∷ ts) ≡ run (Read Sum ∷ Join (Compared d) ∷ s) vs ts) same refl
compares_by sign.Match c p s vs ts e = let same : how.Match ≡ c = cc in subst (λ d. run (Go MoreSum ∷ Go Compares ∷ s) vs (a_sign sign.Match p ∷ ts) ≡ run (Read Sum ∷ Join (Compared d) ∷ s) vs ts) same refl
compares_by sign.NotMatch c p s vs ts e = let same : how.NotMatch ≡ c = cc in subst (λ d. run (Go MoreSum ∷ Go Compares ∷ s) vs (a_sign sign.NotMatch p ∷ ts) ≡ run (Read Sum ∷ Join (Compared d) ∷ s) vs ts) same refl
compares_by sign.Less c p s vs ts e = let same : how.Less ≡ c = cc in subst (λ d. run (Go MoreSum ∷ Go Compares ∷ s) vs (a_sign sign.Less p ∷ ts) ≡ run (Read Sum ∷ Join (Compared d) ∷ s) vs ts) same refl
compares_by sign.LessOrEqual c p s vs ts e = let same : how.LessOrEqual ≡ c = cc in subst (λ d. run (Go MoreSum ∷ Go Compares ∷ s) vs (a_sign sign.LessOrEqual p ∷ ts) ≡ run (Read Sum ∷ Join (Compared d) ∷ s) vs ts) same refl
compares_by sign.Greater c p s vs ts e = let same : how.Greater ≡ c = cc in subst (λ d. run (Go MoreSum ∷ Go Compares ∷ s) vs (a_sign sign.Greater p ∷ ts) ≡ run (Read Sum ∷ Join (Compared d) ∷ s) vs ts) same refl
compares_by sign.GreaterOrEqual c p s vs ts e = let same : how.GreaterOrEqual ≡ c = cc in subst (λ d. run (Go MoreSum ∷ Go Compares ∷ s) vs (a_sign sign.GreaterOrEqual p ∷ ts) ≡ run (Read Sum ∷ Join (Compared d) ∷ s) vs ts) same refl
compares_by _ c p s vs ts e = cc

weight_on : (t : List ℕ) (p : ℕ) (s : List Want) (vs : List Phrase) (ts : List Token) → has_zeros t ≡ true → run (Read (Argument true) ∷ s) vs (a_decimal t p ∷ ts) ≡ run s (Weight p t ∷ vs) ts
weight_on t p s vs ts e = rw e refl

-- the first of them is an expression, so no weight
abbrev NoWeight : List Token → Type 0
NoWeight ts = (w : Bool) (s : List Want) (vs : List Phrase) → run (Read (Argument w) ∷ s) vs ts ≡ run (Read Any ∷ s) vs ts

name_no_weight : {e : Phrase} {x : Token} (ts : List Token) → IsName e x → NoWeight (x ∷ ts)
name_no_weight ts plain_name true s vs = refl
name_no_weight ts plain_name false s vs = refl
name_no_weight ts word_name true s vs = refl
name_no_weight ts word_name false s vs = refl

term_no_weight : (e : Phrase) (ts rest : List Token) → IsTerm e ts rest → NoWeight ts
term_no_weight _ _ _ (group e) true s vs = refl
term_no_weight _ _ _ (group e) false s vs = refl
term_no_weight _ _ _ string_term true s vs = refl
term_no_weight _ _ _ string_term false s vs = refl
term_no_weight _ _ _ integer_term true s vs = refl
term_no_weight _ _ _ integer_term false s vs = refl
term_no_weight _ _ _ duration_term true s vs = refl
term_no_weight _ _ _ duration_term false s vs = refl
term_no_weight _ _ _ minus_integer true s vs = refl
term_no_weight _ _ _ minus_integer false s vs = refl
term_no_weight _ _ _ minus_duration true s vs = refl
term_no_weight _ _ _ minus_duration false s vs = refl
term_no_weight _ _ _ (variable n e) w s vs = name_no_weight _ n w s vs
term_no_weight _ _ _ (call n l) w s vs = name_no_weight _ n w s vs

not_no_weight : (p : ℕ) (ts : List Token) → NoWeight (a_sign sign.Not p ∷ ts)
not_no_weight p ts true s vs = refl
not_no_weight p ts false s vs = refl

enter_any : (s : List Want) (vs : List Phrase) (ts : List Token) → run (Read Any ∷ s) vs ts ≡ run (Read All ∷ Go MoreAny ∷ s) vs ts
enter_any s vs [] = refl
enter_any s vs (x ∷ ts) = refl

enter_all : (s : List Want) (vs : List Phrase) (ts : List Token) → run (Read All ∷ s) vs ts ≡ run (Read Negation ∷ Go MoreAll ∷ s) vs ts
enter_all s vs [] = refl
enter_all s vs (x ∷ ts) = refl

enter_comparing : (s : List Want) (vs : List Phrase) (ts : List Token) → run (Read Comparing ∷ s) vs ts ≡ run (Read Sum ∷ Go Compares ∷ s) vs ts
enter_comparing s vs [] = refl
enter_comparing s vs (x ∷ ts) = refl

enter_sum : (s : List Want) (vs : List Phrase) (ts : List Token) → run (Read Sum ∷ s) vs ts ≡ run (Read Term ∷ Go MoreSum ∷ s) vs ts
enter_sum s vs [] = refl
enter_sum s vs (x ∷ ts) = refl

-- the tokens end what an expression may carry on with
pub record EndsAll (ts : List Token) : Type 0 where
  pub sums : EndsAt MoreSum ts
  pub comparisons : EndsAt Compares ts
  pub conjunctions : EndsAt MoreAll ts

pub semicolon_ends : (p : ℕ) (ts : List Token) → EndsAll (a_sign sign.Semicolon p ∷ ts)
semicolon_ends p ts = record { sums = λ s vs. refl; comparisons = λ s vs. refl; conjunctions = λ s vs. refl }

pub comma_ends : (p : ℕ) (ts : List Token) → EndsAll (a_sign sign.Comma p ∷ ts)
comma_ends p ts = record { sums = λ s vs. refl; comparisons = λ s vs. refl; conjunctions = λ s vs. refl }

pub parenthesis_ends : (p : ℕ) (ts : List Token) → EndsAll (a_sign sign.CloseParenthesis p ∷ ts)
parenthesis_ends p ts = record { sums = λ s vs. refl; comparisons = λ s vs. refl; conjunctions = λ s vs. refl }

or_ends : (p : ℕ) (ts : List Token) → EndsAll (a_sign sign.Or p ∷ ts)
or_ends p ts = record { sums = λ s vs. refl; comparisons = λ s vs. refl; conjunctions = λ s vs. refl }

mutual
  pub expression_on : {e : Phrase} {ts rest : List Token} → IsExpression e ts rest → EndsAll rest → (s : List Want) (vs : List Phrase) → run (Read Any ∷ s) vs ts ≡ run (Go MoreAny ∷ s) (e ∷ vs) rest
  expression_on (conjunction {e} {ts} {rest} a) k s vs = enter_any s vs ts ∙ conjunction_on a k.sums k.comparisons (Go MoreAny ∷ s) vs ∙ k.conjunctions (Go MoreAny ∷ s) (e ∷ vs)
  expression_on (either {a} {b} {ts} {m} {rest} {p} h g) k s vs =
      expression_on h (or_ends p m) s vs ∙ conjunction_on g k.sums k.comparisons (Join Either ∷ Go MoreAny ∷ s) (a ∷ vs) ∙ k.conjunctions (Join Either ∷ Go MoreAny ∷ s) (b ∷ a ∷ vs) ∙ join_on Either (Go MoreAny ∷ s) (b ∷ a ∷ vs) rest

  conjunction_on : {e : Phrase} {ts rest : List Token} → IsConjunction e ts rest → EndsAt MoreSum rest → EndsAt Compares rest → (s : List Want) (vs : List Phrase) → run (Read All ∷ s) vs ts ≡ run (Go MoreAll ∷ s) (e ∷ vs) rest
  conjunction_on (negation {e} {ts} {rest} a) k l s vs = enter_all s vs ts ∙ negation_on a k l (Go MoreAll ∷ s) vs
  conjunction_on (both {a} {b} {ts} {m} {rest} {p} h g) k l s vs =
      conjunction_on h (λ s vs. refl) (λ s vs. refl) s vs ∙ negation_on g k l (Join Both ∷ Go MoreAll ∷ s) (a ∷ vs) ∙ join_on Both (Go MoreAll ∷ s) (b ∷ a ∷ vs) rest

  negation_on : {e : Phrase} {ts rest : List Token} → IsNegation e ts rest → EndsAt MoreSum rest → EndsAt Compares rest → (s : List Want) (vs : List Phrase) → run (Read Negation ∷ s) vs ts ≡ run s (e ∷ vs) rest
  negation_on (comparison {e} {ts} {rest} a) k l s vs = from_comparison NotNegated term_not_negated a s vs ∙ comparison_on a k l s vs
  negation_on (not {e} {ts} {rest} {p} a) k l s vs = comparison_on a k l (Join Not ∷ s) (At p ∷ vs) ∙ join_on Not s (e ∷ At p ∷ vs) rest

  comparison_on : {e : Phrase} {ts rest : List Token} → IsComparison e ts rest → EndsAt MoreSum rest → EndsAt Compares rest → (s : List Want) (vs : List Phrase) → run (Read Comparing ∷ s) vs ts ≡ run s (e ∷ vs) rest
  comparison_on (sum {e} {ts} {rest} a) k l s vs = enter_comparing s vs ts ∙ sum_on a (Go Compares ∷ s) vs ∙ k (Go Compares ∷ s) (e ∷ vs) ∙ l s (e ∷ vs)
  comparison_on (compared {a} {b} {how = c} {s = u} {ts} {m} {rest} {p} h e g) k l s vs =
      enter_comparing s vs ts ∙ sum_on h (Go Compares ∷ s) vs ∙ compares_by u c p s (a ∷ vs) m e ∙ sum_on g (Join (Compared c) ∷ s) (a ∷ vs) ∙ k (Join (Compared c) ∷ s) (b ∷ a ∷ vs) ∙ join_on (Compared c) s (b ∷ a ∷ vs) rest

  sum_on : {e : Phrase} {ts rest : List Token} → IsSum e ts rest → (s : List Want) (vs : List Phrase) → run (Read Sum ∷ s) vs ts ≡ run (Go MoreSum ∷ s) (e ∷ vs) rest
  sum_on (term {e} {ts} {rest} a) s vs = enter_sum s vs ts ∙ term_on a (Go MoreSum ∷ s) vs
  sum_on (added {a} {b} {ts} {m} {rest} {p} h g) s vs = sum_on h s vs ∙ term_on g (Join Added ∷ Go MoreSum ∷ s) (a ∷ vs) ∙ join_on Added (Go MoreSum ∷ s) (b ∷ a ∷ vs) rest
  sum_on (subtracted {a} {b} {ts} {m} {rest} {p} h g) s vs = sum_on h s vs ∙ term_on g (Join Subtracted ∷ Go MoreSum ∷ s) (a ∷ vs) ∙ join_on Subtracted (Go MoreSum ∷ s) (b ∷ a ∷ vs) rest
  sum_on (side_by_side {a} {b} {ts} {m} {rest} h e g) s vs =
      sum_on h s vs ∙ term_beside g e s (a ∷ vs) ∙ term_on g (Join Added ∷ Go MoreSum ∷ s) (a ∷ vs) ∙ join_on Added (Go MoreSum ∷ s) (b ∷ a ∷ vs) rest

  term_on : {e : Phrase} {ts rest : List Token} → IsTerm e ts rest → (s : List Want) (vs : List Phrase) → run (Read Term ∷ s) vs ts ≡ run s (e ∷ vs) rest
  term_on (group {e} {ts} {rest} {p} {q} a) s vs = expression_on a (parenthesis_ends q rest) (Take sign.CloseParenthesis ∷ Join Group ∷ s) (At p ∷ vs) ∙ join_on Group s (e ∷ At p ∷ vs) rest
  term_on string_term s vs = refl
  term_on integer_term s vs = refl
  term_on duration_term s vs = refl
  term_on minus_integer s vs = refl
  term_on minus_duration s vs = refl
  term_on (variable {e} {x} {rest} n f) s vs = name_as_term rest s vs n ∙ calls_end rest f s (e ∷ vs)
  term_on (call {e} {arguments = l} {x} {ts} {rest} n h) s vs = name_as_term ts s vs n ∙ open_calls s (e ∷ vs) h ∙ arguments_on h (Join Called ∷ s) (e ∷ vs) ∙ join_on Called s (l ∷ e ∷ vs) rest

  pub arguments_on : {w : Bool} {l : Phrase} {ts rest : List Token} → IsArguments w l ts rest → (s : List Want) (vs : List Phrase) → run (Read (Arguments w) ∷ s) vs ts ≡ run s (l ∷ vs) rest
  arguments_on no_arguments s vs = refl
  arguments_on (arguments {weight = w} {l} {ts} {rest} {p} {q} h) s vs = list_on h (parenthesis_ends q rest) (λ s vs. refl) (Take sign.CloseParenthesis ∷ s) vs

  list_on : {w : Bool} {l : Phrase} {ts rest : List Token} → IsArgumentList w l ts rest → EndsAll rest → EndsAt MoreAny rest → (s : List Want) (vs : List Phrase) →
      run (Go (FirstArgument w) ∷ s) (Nothing ∷ vs) ts ≡ run (Go (MoreArguments w) ∷ s) (l ∷ vs) rest
  list_on (first_argument {weight = w} {e} {ts} {rest} h) k j s vs =
      from_expression (IsArgument w) (term_is_argument w) (λ p ts s vs. refl) h s (Nothing ∷ vs) ∙ expression_on h k (Join More ∷ Go (MoreArguments w) ∷ s) (Nothing ∷ vs) ∙ j (Join More ∷ Go (MoreArguments w) ∷ s) (e ∷ Nothing ∷ vs) ∙ join_on More (Go (MoreArguments w) ∷ s) (e ∷ Nothing ∷ vs) rest
  list_on (next_argument {weight = w} {l} {e} {ts} {m} {rest} {p} h g) k j s vs =
      list_on h (comma_ends p m) (λ s vs. refl) s vs ∙ from_expression NoWeight term_no_weight not_no_weight g w (Join More ∷ Go (MoreArguments w) ∷ s) (l ∷ vs) ∙ expression_on g k (Join More ∷ Go (MoreArguments w) ∷ s) (l ∷ vs) ∙ j (Join More ∷ Go (MoreArguments w) ∷ s) (e ∷ l ∷ vs) ∙ join_on More (Go (MoreArguments w) ∷ s) (e ∷ l ∷ vs) rest
  list_on (weight_argument {l} {ts} {rest} {p} {q} {t} h e) k j s vs =
      list_on h (comma_ends p (a_decimal t q ∷ rest)) (λ s vs. refl) s vs ∙ weight_on t q (Join More ∷ Go (MoreArguments true) ∷ s) (l ∷ vs) rest e ∙ join_on More (Go (MoreArguments true) ∷ s) (Weight q t ∷ l ∷ vs) rest
