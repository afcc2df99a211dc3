-- The grammar of expressions. Each relation says that the tokens up to a rest are such a part, with its phrase.
use Rattle.std.specs.Prelude.{ℕ, ◌≡◌, ℤ, Bool, true, false, List, ◌∷◌, Some}
use Rattle.vcl_tree.specs.Phrase.{Phrase, Nothing, At, String, Weight, Integer, Duration, Node, More, Either, Both, Not, Compared, Added, Subtracted, Group, Called}
use Rattle.vcl_tree.specs.declared.token.Token.{Token}
use Rattle.vcl_tree.specs.declared.token.Sign.{Sign}
use Rattle.vcl_tree.specs.declared.token.Sign.TheVariants as sign
use Rattle.vcl_tree.specs.declared.expression.Comparison.{Comparison}
use Rattle.vcl_tree.specs.Tokens.{a_sign, a_string, an_integer, a_duration, a_decimal, IsName}
use Rattle.vcl_tree.specs.Signs.{first_is, comparison_of}
use Rattle.vcl_tree.specs.Endings.{has_zeros}
use Rattle.vcl_tree.specs.Numbers.{opposite}

mutual
  -- expression = conjunction | expression "||" conjunction
  pub data IsExpression : Phrase → List Token → List Token → Type 0 where
    conjunction : {e : Phrase} {ts rest : List Token} → IsConjunction e ts rest → IsExpression e ts rest
    either : {a b : Phrase} {ts m rest : List Token} {p : ℕ} →
        IsExpression a ts (a_sign sign.Or p ∷ m) → IsConjunction b m rest → IsExpression (Node Either a b) ts rest

  -- conjunction = negation | conjunction "&&" negation
  pub data IsConjunction : Phrase → List Token → List Token → Type 0 where
    negation : {e : Phrase} {ts rest : List Token} → IsNegation e ts rest → IsConjunction e ts rest
    both : {a b : Phrase} {ts m rest : List Token} {p : ℕ} →
        IsConjunction a ts (a_sign sign.And p ∷ m) → IsNegation b m rest → IsConjunction (Node Both a b) ts rest

  -- negation = comparison | "!" comparison
  pub data IsNegation : Phrase → List Token → List Token → Type 0 where
    comparison : {e : Phrase} {ts rest : List Token} → IsComparison e ts rest → IsNegation e ts rest
    not : {e : Phrase} {ts rest : List Token} {p : ℕ} → IsComparison e ts rest → IsNegation (Node Not (At p) e) (a_sign sign.Not p ∷ ts) rest

  -- comparison = sum | sum ( "==" | "!=" | "<" | "<=" | ">" | ">=" | "~" | "!~" ) sum
  pub data IsComparison : Phrase → List Token → List Token → Type 0 where
    sum : {e : Phrase} {ts rest : List Token} → IsSum e ts rest → IsComparison e ts rest
    compared : {a b : Phrase} {how : Comparison} {s : Sign} {ts m rest : List Token} {p : ℕ} →
        IsSum a ts (a_sign s p ∷ m) → comparison_of s ≡ Some how → IsSum b m rest → IsComparison (Node (Compared how) a b) ts rest

  -- sum = term | sum "+" term | sum "-" term | sum term, where no "-" stands first in the last
  pub data IsSum : Phrase → List Token → List Token → Type 0 where
    term : {e : Phrase} {ts rest : List Token} → IsTerm e ts rest → IsSum e ts rest
    added : {a b : Phrase} {ts m rest : List Token} {p : ℕ} →
        IsSum a ts (a_sign sign.Plus p ∷ m) → IsTerm b m rest → IsSum (Node Added a b) ts rest
    subtracted : {a b : Phrase} {ts m rest : List Token} {p : ℕ} →
        IsSum a ts (a_sign sign.Minus p ∷ m) → IsTerm b m rest → IsSum (Node Subtracted a b) ts rest
    side_by_side : {a b : Phrase} {ts m rest : List Token} →
        IsSum a ts m → first_is sign.Minus m ≡ false → IsTerm b m rest → IsSum (Node Added a b) ts rest

  -- term = "(" expression ")" | string | integer | duration | "-" integer | "-" duration | name, where no "(" follows
  --      | name arguments
  pub data IsTerm : Phrase → List Token → List Token → Type 0 where
    group : {e : Phrase} {ts rest : List Token} {p q : ℕ} →
        IsExpression e ts (a_sign sign.CloseParenthesis q ∷ rest) → IsTerm (Node Group (At p) e) (a_sign sign.OpenParenthesis p ∷ ts) rest
    string_term : {rest : List Token} {p : ℕ} {t : List ℕ} → IsTerm (String p t) (a_string t p ∷ rest) rest
    integer_term : {rest : List Token} {p : ℕ} {n : ℤ} → IsTerm (Integer p n) (an_integer n p ∷ rest) rest
    duration_term : {rest : List Token} {p : ℕ} {n : ℤ} → IsTerm (Duration p n) (a_duration n p ∷ rest) rest
    minus_integer : {rest : List Token} {p q : ℕ} {n : ℤ} → IsTerm (Integer p (opposite n)) (a_sign sign.Minus p ∷ an_integer n q ∷ rest) rest
    minus_duration : {rest : List Token} {p q : ℕ} {n : ℤ} → IsTerm (Duration p (opposite n)) (a_sign sign.Minus p ∷ a_duration n q ∷ rest) rest
    variable : {e : Phrase} {x : Token} {rest : List Token} → IsName e x → first_is sign.OpenParenthesis rest ≡ false → IsTerm e (x ∷ rest) rest
    call : {e arguments : Phrase} {x : Token} {ts rest : List Token} →
        IsName e x → IsArguments false arguments ts rest → IsTerm (Node Called e arguments) (x ∷ ts) rest

  -- arguments = "(" ")" | "(" list ")"; a weight may stand in the list where the first argument says so
  pub data IsArguments : Bool → Phrase → List Token → List Token → Type 0 where
    no_arguments : {weight : Bool} {rest : List Token} {p q : ℕ} →
        IsArguments weight Nothing (a_sign sign.OpenParenthesis p ∷ a_sign sign.CloseParenthesis q ∷ rest) rest
    arguments : {weight : Bool} {l : Phrase} {ts rest : List Token} {p q : ℕ} →
        IsArgumentList weight l ts (a_sign sign.CloseParenthesis q ∷ rest) → IsArguments weight l (a_sign sign.OpenParenthesis p ∷ ts) rest

  -- list = expression | list "," expression | list "," weight; a weight is a decimal with a fraction of zeros
  pub data IsArgumentList : Bool → Phrase → List Token → List Token → Type 0 where
    first_argument : {weight : Bool} {e : Phrase} {ts rest : List Token} → IsExpression e ts rest → IsArgumentList weight (Node More Nothing e) ts rest
    next_argument : {weight : Bool} {l e : Phrase} {ts m rest : List Token} {p : ℕ} →
        IsArgumentList weight l ts (a_sign sign.Comma p ∷ m) → IsExpression e m rest → IsArgumentList weight (Node More l e) ts rest
    weight_argument : {l : Phrase} {ts rest : List Token} {p q : ℕ} {t : List ℕ} →
        IsArgumentList true l ts (a_sign sign.Comma p ∷ a_decimal t q ∷ rest) → has_zeros t ≡ true → IsArgumentList true (Node More l (Weight q t)) ts rest
