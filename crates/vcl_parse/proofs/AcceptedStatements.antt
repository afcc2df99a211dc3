-- A block of the grammar is passed by the reading of single tokens.
use Rattle.std.proofs.Common.{◌≡◌, ℕ, List, ◌∷◌, refl, ◌∙◌}
use Rattle.std.specs.Prelude.{Bool, false}
use Rattle.vcl_tree.specs.Phrase.{Phrase, Nothing, At, Named, Node, Called, More, Bound, Set, Append, Unset, Jump, New, Return, Branch, If, ElseIf, Else}
use Rattle.vcl_tree.specs.declared.token.Token.{Token}
use Rattle.vcl_tree.specs.declared.token.Sign.TheVariants as sign
use Rattle.vcl_tree.specs.Tokens.{a_sign, IsName, plain_name, word_name, IsNewName, new_name}
use Rattle.vcl_tree.specs.ExpressionGrammar.{IsExpression, IsArguments, no_arguments, arguments}
use Rattle.vcl_tree.specs.StatementGrammar.{IsBlock, IsStatements, IsStatement, IsConditional, IsBranch, block, no_statements, more_statements, set, append, unset, jump, new, conditional, otherwise, return, return_with, run, first_branch, else_if, else_then_if, branch}
use Rattle.vcl_parse.specs.Machine.{Want, Take, AnyName, NewName, Read, Go, Join, Any, Arguments, Assignment, Ending, Condition, Block, AfterElse, MoreStatements, MoreElse}
use Rattle.vcl_parse.proofs.Running as running
use Rattle.vcl_parse.proofs.Running.{EndsAt, join_on}
use Rattle.vcl_parse.proofs.AcceptedExpressions.{semicolon_ends, parenthesis_ends, expression_on, arguments_on}

pub name_on : {e : Phrase} {x : Token} (ts : List Token) (s : List Want) (vs : List Phrase) → IsName e x → running.run (AnyName ∷ s) vs (x ∷ ts) ≡ running.run s (e ∷ vs) ts
name_on ts s vs plain_name = refl
name_on ts s vs word_name = refl

pub new_name_on : {e : Phrase} {x : Token} (ts : List Token) (s : List Want) (vs : List Phrase) → IsNewName e x → running.run (NewName ∷ s) vs (x ∷ ts) ≡ running.run s (e ∷ vs) ts
new_name_on ts s vs new_name = refl

-- the word of the return and its arguments
ending_with : {w : Bool} {l : Phrase} {ts rest : List Token} (s : List Want) (vs : List Phrase) → IsArguments w l ts rest →
    running.run (Read Ending ∷ s) vs ts ≡ running.run (Read (Arguments false) ∷ Join Called ∷ Take sign.CloseParenthesis ∷ Take sign.Semicolon ∷ s) vs ts
ending_with s vs no_arguments = refl
ending_with s vs (arguments h) = refl

else_block : {b : Phrase} {ts rest : List Token} (s : List Want) (vs : List Phrase) → IsBlock b ts rest → running.run (Read AfterElse ∷ s) vs ts ≡ running.run (Read Block ∷ Join Else ∷ s) vs ts
else_block s vs (block h) = refl

from_conditional : {c : Phrase} {ts rest : List Token} → IsConditional c ts rest → EndsAt MoreElse ts
from_conditional (first_branch h) s vs = refl
from_conditional (else_if c h) s vs = from_conditional c s vs
from_conditional (else_then_if c h) s vs = from_conditional c s vs

-- no statement begins with `else`
not_else : {a : Phrase} {ts rest : List Token} → IsStatement a ts rest → EndsAt MoreElse ts
not_else (set n e) s vs = refl
not_else (append n e) s vs = refl
not_else (unset n) s vs = refl
not_else (jump n) s vs = refl
not_else (new n m l) s vs = refl
not_else (conditional c) s vs = from_conditional c s vs
not_else (otherwise c b) s vs = from_conditional c s vs
not_else (return n) s vs = refl
not_else (return_with n l) s vs = refl
not_else (run l) s vs = refl

value_on : {e : Phrase} {ts rest : List Token} {p : ℕ} → IsExpression e ts (a_sign sign.Semicolon p ∷ rest) → (s : List Want) (vs : List Phrase) →
    running.run (Read Any ∷ Take sign.Semicolon ∷ s) vs ts ≡ running.run s (e ∷ vs) rest
value_on {e} {ts} {rest} {p} h s vs = expression_on h (semicolon_ends p rest) (Take sign.Semicolon ∷ s) vs

condition_on : {e : Phrase} {ts rest : List Token} {p : ℕ} → IsExpression e ts (a_sign sign.CloseParenthesis p ∷ rest) → (s : List Want) (vs : List Phrase) →
    running.run (Read Any ∷ Take sign.CloseParenthesis ∷ s) vs ts ≡ running.run s (e ∷ vs) rest
condition_on {e} {ts} {rest} {p} h s vs = expression_on h (parenthesis_ends p rest) (Take sign.CloseParenthesis ∷ s) vs

mutual
  pub block_on : {b : Phrase} {ts rest : List Token} → IsBlock b ts rest → (s : List Want) (vs : List Phrase) → running.run (Read Block ∷ s) vs ts ≡ running.run s (b ∷ vs) rest
  block_on (block {b} {ts} {rest} {p} {q} h) s vs = statements_on h (λ s vs. refl) (Take sign.CloseBrace ∷ s) vs

  statements_on : {l : Phrase} {ts rest : List Token} → IsStatements l ts rest → EndsAt MoreElse rest → (s : List Want) (vs : List Phrase) →
      running.run (Go MoreStatements ∷ s) (Nothing ∷ vs) ts ≡ running.run (Go MoreStatements ∷ s) (l ∷ vs) rest
  statements_on no_statements k s vs = refl
  statements_on (more_statements {l} {a} {ts} {m} {rest} h g) k s vs =
      statements_on h (not_else g) s vs ∙ statement_on g k s (l ∷ vs) ∙ join_on More (Go MoreStatements ∷ s) (a ∷ l ∷ vs) rest

  statement_on : {a : Phrase} {ts rest : List Token} → IsStatement a ts rest → EndsAt MoreElse rest → (s : List Want) (vs : List Phrase) →
      running.run (Go MoreStatements ∷ s) vs ts ≡ running.run (Join More ∷ Go MoreStatements ∷ s) (a ∷ vs) rest
  statement_on (set {a} {e} {x} {ts} {rest} {p} {q} {r} {t} n h) k s vs =
      let below : List Want = Join More ∷ Go MoreStatements ∷ s in
      name_on (a_sign sign.Assign q ∷ ts) (Read Assignment ∷ below) (At p ∷ vs) n ∙ value_on h (Join Bound ∷ Join Set ∷ below) (a ∷ At p ∷ vs)
      ∙ join_on Bound (Join Set ∷ below) (e ∷ a ∷ At p ∷ vs) rest ∙ join_on Set below (Node Bound a e ∷ At p ∷ vs) rest
  statement_on (append {a} {e} {x} {ts} {rest} {p} {q} {r} {t} n h) k s vs =
      let below : List Want = Join More ∷ Go MoreStatements ∷ s in
      name_on (a_sign sign.AddAssign q ∷ ts) (Read Assignment ∷ below) (At p ∷ vs) n ∙ value_on h (Join Bound ∷ Join Append ∷ below) (a ∷ At p ∷ vs)
      ∙ join_on Bound (Join Append ∷ below) (e ∷ a ∷ At p ∷ vs) rest ∙ join_on Append below (Node Bound a e ∷ At p ∷ vs) rest
  statement_on (unset {a} {x} {rest} {p} {q} {t} n) k s vs =
      let below : List Want = Join More ∷ Go MoreStatements ∷ s in
      name_on (a_sign sign.Semicolon q ∷ rest) (Take sign.Semicolon ∷ Join Unset ∷ below) (At p ∷ vs) n ∙ join_on Unset below (a ∷ At p ∷ vs) rest
  statement_on (jump {a} {x} {rest} {p} {q} {t} n) k s vs =
      let below : List Want = Join More ∷ Go MoreStatements ∷ s in
      name_on (a_sign sign.Semicolon q ∷ rest) (Take sign.Semicolon ∷ Join Jump ∷ below) (At p ∷ vs) n ∙ join_on Jump below (a ∷ At p ∷ vs) rest
  statement_on (new {a} {maker} {l} {x} {y} {ts} {rest} {p} {q} {r} {t} n m h) k s vs =
      let below : List Want = Join More ∷ Go MoreStatements ∷ s in
      let last : List Want = Take sign.Semicolon ∷ Join Bound ∷ Join New ∷ below in
      let ended : List Token = a_sign sign.Semicolon r ∷ rest in
      new_name_on (a_sign sign.Assign q ∷ y ∷ ts) (Take sign.Assign ∷ AnyName ∷ Read (Arguments false) ∷ Join Called ∷ last) (At p ∷ vs) n
      ∙ name_on ts (Read (Arguments false) ∷ Join Called ∷ last) (a ∷ At p ∷ vs) m ∙ arguments_on h (Join Called ∷ last) (maker ∷ a ∷ At p ∷ vs)
      ∙ join_on Called last (l ∷ maker ∷ a ∷ At p ∷ vs) ended ∙ join_on Bound (Join New ∷ below) (Node Called maker l ∷ a ∷ At p ∷ vs) rest
      ∙ join_on New below (Node Bound a (Node Called maker l) ∷ At p ∷ vs) rest
  statement_on (conditional {c} {ts} {rest} h) k s vs = conditional_on h s vs ∙ k (Join More ∷ Go MoreStatements ∷ s) (c ∷ vs)
  statement_on (otherwise {c} {b} {ts} {m} {rest} {p} {t} h g) k s vs =
      let below : List Want = Join More ∷ Go MoreStatements ∷ s in
      conditional_on h s vs ∙ else_block below (c ∷ vs) g ∙ block_on g (Join Else ∷ below) (c ∷ vs) ∙ join_on Else below (b ∷ c ∷ vs) rest
  statement_on (return {a} {x} {rest} {p} {q} {r} {u} {t} n) k s vs =
      let below : List Want = Join More ∷ Go MoreStatements ∷ s in
      name_on (a_sign sign.CloseParenthesis r ∷ a_sign sign.Semicolon u ∷ rest) (Read Ending ∷ Join Return ∷ below) (At p ∷ vs) n ∙ join_on Return below (a ∷ At p ∷ vs) rest
  statement_on (return_with {a} {l} {x} {ts} {rest} {p} {q} {r} {u} {t} n h) k s vs =
      let below : List Want = Join More ∷ Go MoreStatements ∷ s in
      let last : List Want = Take sign.CloseParenthesis ∷ Take sign.Semicolon ∷ Join Return ∷ below in
      name_on ts (Read Ending ∷ Join Return ∷ below) (At p ∷ vs) n ∙ ending_with (Join Return ∷ below) (a ∷ At p ∷ vs) h ∙ arguments_on h (Join Called ∷ last) (a ∷ At p ∷ vs)
      ∙ join_on Called last (l ∷ a ∷ At p ∷ vs) (a_sign sign.CloseParenthesis r ∷ a_sign sign.Semicolon u ∷ rest) ∙ join_on Return below (Node Called a l ∷ At p ∷ vs) rest
  statement_on (run {l} {ts} {rest} {p} {q} {t} h) k s vs =
      let below : List Want = Join More ∷ Go MoreStatements ∷ s in
      arguments_on h (Join Called ∷ Take sign.Semicolon ∷ below) (Named p t ∷ vs) ∙ join_on Called (Take sign.Semicolon ∷ below) (l ∷ Named p t ∷ vs) (a_sign sign.Semicolon q ∷ rest)

  conditional_on : {c : Phrase} {ts rest : List Token} → IsConditional c ts rest → (s : List Want) (vs : List Phrase) →
      running.run (Go MoreStatements ∷ s) vs ts ≡ running.run (Go MoreElse ∷ Join More ∷ Go MoreStatements ∷ s) (c ∷ vs) rest
  conditional_on (first_branch {b} {ts} {rest} {p} {t} h) s vs =
      let below : List Want = Go MoreElse ∷ Join More ∷ Go MoreStatements ∷ s in
      branch_on h (Join If ∷ below) (At p ∷ vs) ∙ join_on If below (b ∷ At p ∷ vs) rest
  conditional_on (else_if {c} {b} {ts} {m} {rest} {p} {t} h g) s vs =
      let below : List Want = Go MoreElse ∷ Join More ∷ Go MoreStatements ∷ s in
      conditional_on h s vs ∙ branch_on g (Join ElseIf ∷ below) (c ∷ vs) ∙ join_on ElseIf below (b ∷ c ∷ vs) rest
  conditional_on (else_then_if {c} {b} {ts} {m} {rest} {p} {q} {t} {u} h g) s vs =
      let below : List Want = Go MoreElse ∷ Join More ∷ Go MoreStatements ∷ s in
      conditional_on h s vs ∙ branch_on g (Join ElseIf ∷ below) (c ∷ vs) ∙ join_on ElseIf below (b ∷ c ∷ vs) rest

  branch_on : {b : Phrase} {ts rest : List Token} → IsBranch b ts rest → (s : List Want) (vs : List Phrase) → running.run (Read Condition ∷ s) vs ts ≡ running.run s (b ∷ vs) rest
  branch_on (branch {e} {b} {ts} {m} {rest} {p} {q} h g) s vs =
      condition_on h (Read Block ∷ Join Branch ∷ s) vs ∙ block_on g (Join Branch ∷ s) (e ∷ vs) ∙ join_on Branch s (b ∷ e ∷ vs) rest
