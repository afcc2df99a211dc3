-- A token that begins or carries on a statement keeps the meaning of what is wanted.
use Rattle.std.proofs.Common.{ℕ, List, [], ◌∷◌, refl}
use Rattle.std.specs.Prelude.{false, Option}
use Rattle.vcl_tree.specs.Phrase.{Phrase, Nothing, At, Named, Node, Called, More, Bound, Set, Append, Unset, Jump, New, Return, Branch, Else}
use Rattle.vcl_tree.specs.declared.token.Token.{Token}
use Rattle.vcl_tree.specs.declared.token.TokenKind.{TokenKind}
use Rattle.vcl_tree.specs.declared.token.TokenKind.TheVariants as kind
use Rattle.vcl_tree.specs.declared.token.Sign.{Sign}
use Rattle.vcl_tree.specs.declared.token.Sign.TheVariants as sign
use Rattle.vcl_tree.specs.declared.token.Word.{Word}
use Rattle.vcl_tree.specs.declared.token.Word.TheVariants as word
use Rattle.vcl_tree.specs.Tokens.{a_sign, a_word}
use Rattle.vcl_tree.specs.ExpressionGrammar.{IsArguments}
use Rattle.vcl_tree.specs.StatementGrammar.{IsStatement, block, no_statements, more_statements, set, append, unset, jump, new, conditional, otherwise, return, return_with, run, first_branch, else_if, else_then_if, branch}
use Rattle.vcl_parse.specs.Machine.{Want, Config, Take, Read, Go, Join, Any, Assignment, Ending, Condition, Block, AfterElse, MoreStatements, MoreElse, FirstArgument, go, or_on, statement_move, word_statement, else_of, else_move, after_else, carry, read}
use Rattle.vcl_parse.specs.Starts.{statement_word_of, else_word_of}
use Rattle.vcl_parse.proofs.Meaning.{Stack, push, stack_of, Sem}
use Rattle.vcl_parse.proofs.Keeping.{at, Keeps, by, at_one, at_either, same_stack}

one_statement : (e : Phrase) (s : List Want) (v : Stack) (ts m : List Token) (last : Stack) → IsStatement e ts m →
    Sem (Join More ∷ Go MoreStatements ∷ s) (push e v) m last → Sem (Go MoreStatements ∷ s) v ts last
one_statement e s v ts m last h k = (k.0, k.1, (λ start before. k.2 start (more_statements before h)), k.3)

word_kept : (w : Word) (t : List ℕ) (p : ℕ) (s : List Want) (vs : List Phrase) (ts : List Token) (last : Stack) (on : Option Config) →
    Keeps (Sem (Go MoreStatements ∷ s) (stack_of vs) (a_word w t p ∷ ts) last) ts last on →
    Keeps (Sem (Go MoreStatements ∷ s) (stack_of vs) (a_word w t p ∷ ts) last) ts last (or_on (word_statement (statement_word_of w) p) s vs on)
word_kept word.Set t p s vs ts last on k = λ h. one_statement (h.5.0) s (stack_of vs) _ (h.5.1) last (rw (h.3) (h.5.2 _ _ _ (h.4) refl)) (h.5.3)
word_kept word.Unset t p s vs ts last on k = λ h. one_statement (Node Unset (At p) (h.0)) s (stack_of vs) _ (h.5.1) last (rw (h.3) (rw (h.5.2) (unset (h.4)))) (h.5.3)
word_kept word.Call t p s vs ts last on k = λ h. one_statement (Node Jump (At p) (h.0)) s (stack_of vs) _ (h.5.1) last (rw (h.3) (rw (h.5.2) (jump (h.4)))) (h.5.3)
word_kept word.New t p s vs ts last on k = λ h.
    let maker = h.5.3 in
    let l = maker.5 in
    one_statement (Node New (At p) (Node Bound (h.0) (Node Called (maker.0) (l.0)))) s (stack_of vs) _ (l.3.1) last
    (rw (h.3) (rw (h.5.2) (rw (maker.3) (new (h.4) (maker.4) (rw (l.3.2) at (l.2)))))) (l.3.3)
word_kept word.If t p s vs ts last on k = λ h. one_statement (h.3.0) s (stack_of vs) _ (h.3.1) last (h.3.2 _ (first_branch (h.2))) (h.3.3)
word_kept word.Return t p s vs ts last on k = λ h.
    let a = h.3 in
    one_statement (Node Return (At p) (a.5.0)) s (stack_of vs) _ (a.5.1) last (rw (h.2) (rw (a.3) (a.5.2 _ t p (h.0) (a.4)))) (a.5.3)
word_kept _ t p s vs ts last on k = k

statement_kind : (k : TokenKind) (p : ℕ) (s : List Want) (vs : List Phrase) (ts : List Token) (last : Stack) (on : Option Config) →
    Keeps (Sem (Go MoreStatements ∷ s) (stack_of vs) (at p k ∷ ts) last) ts last on →
    Keeps (Sem (Go MoreStatements ∷ s) (stack_of vs) (at p k ∷ ts) last) ts last (or_on (statement_move k p) s vs on)
statement_kind (kind.Name t) p s vs ts last on k = λ h. one_statement (Node Called (Named p t) (h.0)) s (stack_of vs) _ (h.3.1) last (run (rw (h.3.2) at (h.2))) (h.3.3)
statement_kind (kind.Word w t) p s vs ts last on k = word_kept w t p s vs ts last on k
statement_kind _ p s vs ts last on k = k

pub statements_kept : (x : Token) (s : List Want) (vs : List Phrase) (ts : List Token) (last : Stack) (on : Option Config) → Keeps (Sem s (stack_of vs) (x ∷ ts) last) ts last on →
    Keeps (Sem (Go MoreStatements ∷ s) (stack_of vs) (x ∷ ts) last) ts last (carry MoreStatements x s vs on)
statements_kept x s vs ts last on k = statement_kind x.kind x.place s vs ts last on
    (by _ _ ts last on (λ m. (stack_of vs 0, x ∷ ts, (λ start before. before), same_stack s (stack_of vs) (x ∷ ts) last m)) k)

else_word_kept : (w : Word) (t : List ℕ) (p : ℕ) (s : List Want) (vs : List Phrase) (ts : List Token) (last : Stack) (on : Option Config) →
    Keeps (Sem (Go MoreElse ∷ s) (stack_of vs) (a_word w t p ∷ ts) last) ts last on →
    Keeps (Sem (Go MoreElse ∷ s) (stack_of vs) (a_word w t p ∷ ts) last) ts last (or_on (else_move (else_word_of w)) s vs on)
else_word_kept word.ElseIf t p s vs ts last on k = λ h. (h.3.0, h.3.1, (λ start before. h.3.2 start (else_if before (h.2))), h.3.3)
else_word_kept word.Else t p s vs ts last on k = λ h. (h.0, h.1, (λ start before. h.2 start _ _ before), h.3)
else_word_kept _ t p s vs ts last on k = k

else_kind : (k : TokenKind) (p : ℕ) (s : List Want) (vs : List Phrase) (ts : List Token) (last : Stack) (on : Option Config) →
    Keeps (Sem (Go MoreElse ∷ s) (stack_of vs) (at p k ∷ ts) last) ts last on →
    Keeps (Sem (Go MoreElse ∷ s) (stack_of vs) (at p k ∷ ts) last) ts last (or_on (else_of k) s vs on)
else_kind (kind.Word w t) p s vs ts last on k = else_word_kept w t p s vs ts last on k
else_kind _ p s vs ts last on k = k

pub else_kept : (x : Token) (s : List Want) (vs : List Phrase) (ts : List Token) (last : Stack) (on : Option Config) → Keeps (Sem s (stack_of vs) (x ∷ ts) last) ts last on →
    Keeps (Sem (Go MoreElse ∷ s) (stack_of vs) (x ∷ ts) last) ts last (carry MoreElse x s vs on)
else_kept x s vs ts last on k = else_kind x.kind x.place s vs ts last on
    (by _ _ ts last on (λ m. (stack_of vs 0, x ∷ ts, (λ start before. conditional before), same_stack s (stack_of vs) (x ∷ ts) last m)) k)

after_word : (w : Word) (t : List ℕ) (p : ℕ) (s : List Want) (vs : List Phrase) (ts : List Token) (last : Stack) →
    Keeps (Sem (Read AfterElse ∷ s) (stack_of vs) (a_word w t p ∷ ts) last) ts last (go (after_else (kind.Word w t)) s vs)
after_word word.If t p s vs ts last = λ h. (h.3.0, h.3.1, (λ start u q before. h.3.2 start (else_then_if before (h.2))), h.3.3)
after_word _ t p s vs ts last = tt

after_sign : (u : Sign) (p : ℕ) (s : List Want) (vs : List Phrase) (ts : List Token) (last : Stack) →
    Keeps (Sem (Read AfterElse ∷ s) (stack_of vs) (a_sign u p ∷ ts) last) ts last (go (after_else (kind.Sign u)) s vs)
after_sign sign.OpenBrace p s vs ts last = λ h. (Node Else (stack_of vs 0) (h.0), h.3.1, (λ start t q before. otherwise before (block (rw (h.3.2) at (h.2 ts no_statements)))), h.3.3)
after_sign _ p s vs ts last = tt

after_kind : (k : TokenKind) (p : ℕ) (s : List Want) (vs : List Phrase) (ts : List Token) (last : Stack) →
    Keeps (Sem (Read AfterElse ∷ s) (stack_of vs) (at p k ∷ ts) last) ts last (go (after_else k) s vs)
after_kind (kind.Word w t) p s vs ts last = after_word w t p s vs ts last
after_kind (kind.Sign u) p s vs ts last = after_sign u p s vs ts last
after_kind _ p s vs ts last = tt

pub after_else_kept : (x : Token) (s : List Want) (vs : List Phrase) (ts : List Token) (last : Stack) → Keeps (Sem (Read AfterElse ∷ s) (stack_of vs) (x ∷ ts) last) ts last (read AfterElse x s vs)
after_else_kept x s vs ts last = after_kind x.kind x.place s vs ts last

pub block_kept : (x : Token) (s : List Want) (vs : List Phrase) (ts : List Token) (last : Stack) → Keeps (Sem (Read Block ∷ s) (stack_of vs) (x ∷ ts) last) ts last (read Block x s vs)
block_kept x s vs ts last = at_one (λ y. Sem (Read Block ∷ s) (stack_of vs) (y ∷ ts) last) sign.OpenBrace x (Nothing ∷ []) (Go MoreStatements ∷ Take sign.CloseBrace ∷ []) s vs ts last
    (λ h. (h.0, h.3.1, block (rw (h.3.2) at (h.2 ts no_statements)), h.3.3))

pub condition_kept : (x : Token) (s : List Want) (vs : List Phrase) (ts : List Token) (last : Stack) → Keeps (Sem (Read Condition ∷ s) (stack_of vs) (x ∷ ts) last) ts last (read Condition x s vs)
condition_kept x s vs ts last = at_one (λ y. Sem (Read Condition ∷ s) (stack_of vs) (y ∷ ts) last) sign.OpenParenthesis x [] (Read Any ∷ Take sign.CloseParenthesis ∷ Read Block ∷ Join Branch ∷ []) s vs ts last
    (λ h. let b = h.3.3 in (Node Branch (h.0) (b.0), b.1, branch (rw (h.3.2) at (h.2)) (b.2), b.3))

pub assignment_kept : (x : Token) (s : List Want) (vs : List Phrase) (ts : List Token) (last : Stack) → Keeps (Sem (Read Assignment ∷ s) (stack_of vs) (x ∷ ts) last) ts last (read Assignment x s vs)
assignment_kept x s vs ts last = at_either (λ y. Sem (Read Assignment ∷ s) (stack_of vs) (y ∷ ts) last) sign.Assign sign.AddAssign x [] []
    (Read Any ∷ Take sign.Semicolon ∷ Join Bound ∷ Join Set ∷ []) (Read Any ∷ Take sign.Semicolon ∷ Join Bound ∷ Join Append ∷ []) s vs ts last
    (λ h. (Node Set (stack_of vs 1) (Node Bound (stack_of vs 0) (h.0)), h.3.1, (λ y t p n e. rw e (set n (rw (h.3.2) at (h.2)))), h.3.3))
    (λ h. (Node Append (stack_of vs 1) (Node Bound (stack_of vs 0) (h.0)), h.3.1, (λ y t p n e. rw e (append n (rw (h.3.2) at (h.2)))), h.3.3))

pub ending_kept : (x : Token) (s : List Want) (vs : List Phrase) (ts : List Token) (last : Stack) → Keeps (Sem (Read Ending ∷ s) (stack_of vs) (x ∷ ts) last) ts last (read Ending x s vs)
ending_kept x s vs ts last = at_either (λ y. Sem (Read Ending ∷ s) (stack_of vs) (y ∷ ts) last) sign.OpenParenthesis sign.CloseParenthesis x (Nothing ∷ []) []
    (Go (FirstArgument false) ∷ Take sign.CloseParenthesis ∷ Join Called ∷ Take sign.CloseParenthesis ∷ Take sign.Semicolon ∷ []) (Take sign.Semicolon ∷ []) s vs ts last
    (λ h.
    let close = h.3.3 in
    let l : IsArguments false (h.0) (a_sign sign.OpenParenthesis x.place ∷ ts) (h.3.1) = h.2 refl x.place (h.3.0) (h.3.1) (h.3.2) in
    (Node Called (stack_of vs 0) (h.0), close.3.1, (λ y t p q n. return_with n (rw (close.3.2) at (rw (close.2) at l))), close.3.3))
    (λ h. (stack_of vs 0, h.1, (λ y t p q n. rw (h.2) (return n)), same_stack s (stack_of vs) (h.1) last (h.3)))
