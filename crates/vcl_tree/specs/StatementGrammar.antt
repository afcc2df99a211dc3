-- The grammar of statements.
use Rattle.std.specs.Prelude.{ℕ, false, List, ◌∷◌}
use Rattle.vcl_tree.specs.Phrase.{Phrase, Nothing, At, Named, Node, More, Called, Bound, Set, Append, Unset, Jump, New, Return, Branch, If, ElseIf, Else}
use Rattle.vcl_tree.specs.declared.token.Token.{Token}
use Rattle.vcl_tree.specs.declared.token.Sign.TheVariants as sign
use Rattle.vcl_tree.specs.declared.token.Word.TheVariants as word
use Rattle.vcl_tree.specs.Tokens.{a_sign, a_word, a_name, IsName, IsNewName}
use Rattle.vcl_tree.specs.Endings.{adds_backend}
use Rattle.vcl_tree.specs.ExpressionGrammar.{IsExpression, IsArguments}

mutual
  -- block = "{" statements "}"
  pub data IsBlock : Phrase → List Token → List Token → Type 0 where
    block : {b : Phrase} {ts rest : List Token} {p q : ℕ} →
        IsStatements b ts (a_sign sign.CloseBrace q ∷ rest) → IsBlock b (a_sign sign.OpenBrace p ∷ ts) rest

  -- statements = | statements statement
  pub data IsStatements : Phrase → List Token → List Token → Type 0 where
    no_statements : {ts : List Token} → IsStatements Nothing ts ts
    more_statements : {l a : Phrase} {ts m rest : List Token} → IsStatements l ts m → IsStatement a m rest → IsStatements (Node More l a) ts rest

  -- statement = "set" name "=" expression ";" | "set" name "+=" expression ";" | "unset" name ";" | "call" name ";"
  --     | "new" new-name "=" name arguments ";" | conditional | conditional "else" block
  --     | "return" "(" name ")" ";" | "return" "(" name arguments ")" ";" | name arguments ";", where the name is no word
  pub data IsStatement : Phrase → List Token → List Token → Type 0 where
    set : {a e : Phrase} {x : Token} {ts rest : List Token} {p q r : ℕ} {t : List ℕ} →
        IsName a x → IsExpression e ts (a_sign sign.Semicolon r ∷ rest) →
        IsStatement (Node Set (At p) (Node Bound a e)) (a_word word.Set t p ∷ x ∷ a_sign sign.Assign q ∷ ts) rest
    append : {a e : Phrase} {x : Token} {ts rest : List Token} {p q r : ℕ} {t : List ℕ} →
        IsName a x → IsExpression e ts (a_sign sign.Semicolon r ∷ rest) →
        IsStatement (Node Append (At p) (Node Bound a e)) (a_word word.Set t p ∷ x ∷ a_sign sign.AddAssign q ∷ ts) rest
    unset : {a : Phrase} {x : Token} {rest : List Token} {p q : ℕ} {t : List ℕ} →
        IsName a x → IsStatement (Node Unset (At p) a) (a_word word.Unset t p ∷ x ∷ a_sign sign.Semicolon q ∷ rest) rest
    jump : {a : Phrase} {x : Token} {rest : List Token} {p q : ℕ} {t : List ℕ} →
        IsName a x → IsStatement (Node Jump (At p) a) (a_word word.Call t p ∷ x ∷ a_sign sign.Semicolon q ∷ rest) rest
    new : {a maker l : Phrase} {x y : Token} {ts rest : List Token} {p q r : ℕ} {t : List ℕ} →
        IsNewName a x → IsName maker y → IsArguments false l ts (a_sign sign.Semicolon r ∷ rest) →
        IsStatement (Node New (At p) (Node Bound a (Node Called maker l))) (a_word word.New t p ∷ x ∷ a_sign sign.Assign q ∷ y ∷ ts) rest
    conditional : {c : Phrase} {ts rest : List Token} → IsConditional c ts rest → IsStatement c ts rest
    otherwise : {c b : Phrase} {ts m rest : List Token} {p : ℕ} {t : List ℕ} →
        IsConditional c ts (a_word word.Else t p ∷ m) → IsBlock b m rest → IsStatement (Node Else c b) ts rest
    return : {a : Phrase} {x : Token} {rest : List Token} {p q r u : ℕ} {t : List ℕ} →
        IsName a x →
        IsStatement (Node Return (At p) a)
        (a_word word.Return t p ∷ a_sign sign.OpenParenthesis q ∷ x ∷ a_sign sign.CloseParenthesis r ∷ a_sign sign.Semicolon u ∷ rest) rest
    return_with : {a l : Phrase} {x : Token} {ts rest : List Token} {p q r u : ℕ} {t : List ℕ} →
        IsName a x → IsArguments false l ts (a_sign sign.CloseParenthesis r ∷ a_sign sign.Semicolon u ∷ rest) →
        IsStatement (Node Return (At p) (Node Called a l)) (a_word word.Return t p ∷ a_sign sign.OpenParenthesis q ∷ x ∷ ts) rest
    run : {l : Phrase} {ts rest : List Token} {p q : ℕ} {t : List ℕ} →
        IsArguments (adds_backend t) l ts (a_sign sign.Semicolon q ∷ rest) → IsStatement (Node Called (Named p t) l) (a_name t p ∷ ts) rest

  -- conditional = "if" branch | conditional "elseif" branch | conditional "else" "if" branch
  pub data IsConditional : Phrase → List Token → List Token → Type 0 where
    first_branch : {b : Phrase} {ts rest : List Token} {p : ℕ} {t : List ℕ} →
        IsBranch b ts rest → IsConditional (Node If (At p) b) (a_word word.If t p ∷ ts) rest
    else_if : {c b : Phrase} {ts m rest : List Token} {p : ℕ} {t : List ℕ} →
        IsConditional c ts (a_word word.ElseIf t p ∷ m) → IsBranch b m rest → IsConditional (Node ElseIf c b) ts rest
    else_then_if : {c b : Phrase} {ts m rest : List Token} {p q : ℕ} {t u : List ℕ} →
        IsConditional c ts (a_word word.Else t p ∷ a_word word.If u q ∷ m) → IsBranch b m rest → IsConditional (Node ElseIf c b) ts rest

  -- branch = "(" expression ")" block
  pub data IsBranch : Phrase → List Token → List Token → Type 0 where
    branch : {e b : Phrase} {ts m rest : List Token} {p q : ℕ} →
        IsExpression e ts (a_sign sign.CloseParenthesis q ∷ m) → IsBlock b m rest → IsBranch (Node Branch e b) (a_sign sign.OpenParenthesis p ∷ ts) rest
