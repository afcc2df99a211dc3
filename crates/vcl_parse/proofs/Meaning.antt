-- What the grammar says of tokens that stand where these parts are wanted.
use Rattle.std.proofs.Common.{◌≡◌, ℕ, zero, suc, List, [], ◌∷◌, refl}
use Rattle.vcl_tree.specs.Phrase.{Phrase, Label, Node, Nothing, At, More, Bound, Return, Probe, Acl}
use Rattle.vcl_tree.specs.declared.token.Token.{Token}
use Rattle.vcl_tree.specs.declared.token.Sign.TheVariants as sign
use Rattle.vcl_tree.specs.declared.token.Word.TheVariants as word
use Rattle.std.specs.Prelude.{ℤ}
use Rattle.vcl_tree.specs.Phrase.{Integer}
use Rattle.vcl_tree.specs.Tokens.{a_sign, a_word, an_integer, IsName, IsNewName, IsString}
use Rattle.vcl_tree.specs.ExpressionGrammar.{IsExpression, IsConjunction, IsNegation, IsComparison, IsSum, IsTerm, IsArguments, IsArgumentList}
use Rattle.vcl_tree.specs.StatementGrammar.{IsBlock, IsStatements, IsStatement, IsConditional, IsBranch}
use Rattle.vcl_tree.specs.AttributeGrammar.{IsAttributes, IsValue, IsBraced}
use Rattle.vcl_tree.specs.Grammar.{IsAddress, IsEntries, IsItem, IsItems}
use Rattle.vcl_parse.specs.Machine.{Part, Tail, Want, Take, AnyName, NewName, Number, Read, Go, Join, Any, All, Negation, Comparing, Sum, Term, Negated, Arguments, Argument, Assignment, Ending, Condition, Block, AfterElse, Value, Attributes, BackendBody, Address, Entries, MoreAny, MoreAll, Compares, MoreSum, Calls, FirstArgument, MoreArguments, MoreStatements, MoreElse, MoreAttributes, Semicolon, MoreEntries, Mask, MoreItems}

-- what has been read, the last first, with nothing below
abbrev pub Stack : Type 0
Stack = ℕ → Phrase

abbrev pub push : Phrase → Stack → Stack
push e v zero = e
push e v (suc n) = v n

abbrev pub pop : Stack → Stack
pop v = λ n. v (suc n)

abbrev pub stack_of : List Phrase → Stack
stack_of [] = λ n. Nothing
stack_of (e ∷ vs) = push e (stack_of vs)

abbrev pub joined : Label → Stack → Stack
joined l v = push (Node l (v 1) (v 0)) (pop (pop v))

at_each : (v : Stack) (n : ℕ) → push (v 0) (pop v) n ≡ v n
at_each v zero = refl
at_each v (suc n) = refl

pub whole : (v : Stack) → push (v 0) (pop v) ≡ v
whole v = λ i n. at_each v n i

-- how a phrase at the tokens up to the rest carries on what is below it on the stack
abbrev pub Fits : Part → Stack → Phrase → List Token → List Token → Type 0
Fits Any v e ts rest = IsExpression e ts rest
Fits All v e ts rest = IsConjunction e ts rest
Fits Negation v e ts rest = IsNegation e ts rest
Fits Comparing v e ts rest = IsComparison e ts rest
Fits Sum v e ts rest = IsSum e ts rest
Fits Term v e ts rest = IsTerm e ts rest
Fits (Negated p) v e ts rest = IsTerm e (a_sign sign.Minus p ∷ ts) rest
Fits (Arguments w) v e ts rest = IsArguments w e ts rest
Fits (Argument w) v e ts rest = (l : Phrase) (start : List Token) (p : ℕ) → IsArgumentList w l start (a_sign sign.Comma p ∷ ts) → IsArgumentList w (Node More l e) start rest
Fits Assignment v e ts rest = (x : Token) (t : List ℕ) (p : ℕ) → IsName (v 0) x → v 1 ≡ At p → IsStatement e (a_word word.Set t p ∷ x ∷ ts) rest
Fits Ending v e ts rest = (x : Token) (t : List ℕ) (p q : ℕ) → IsName (v 0) x → IsStatement (Node Return (At p) e) (a_word word.Return t p ∷ a_sign sign.OpenParenthesis q ∷ x ∷ ts) rest
Fits Condition v e ts rest = IsBranch e ts rest
Fits Block v e ts rest = IsBlock e ts rest
Fits AfterElse v e ts rest = (start : List Token) (t : List ℕ) (p : ℕ) → IsConditional (v 0) start (a_word word.Else t p ∷ ts) → IsStatement e start rest
Fits Value v e ts rest = IsValue e ts rest
Fits Attributes v e ts rest = (a : Phrase) (x : Token) (t : List ℕ) (p : ℕ) → IsNewName a x → IsItem (Node Probe (At p) (Node Bound a e)) (a_word word.Probe t p ∷ x ∷ ts) rest
Fits BackendBody v e ts rest = (x : Token) (t : List ℕ) (p : ℕ) → IsNewName (v 0) x → v 1 ≡ At p → IsItem e (a_word word.Backend t p ∷ x ∷ ts) rest
Fits Address v e ts rest = (p : ℕ) × IsAddress e ts (a_sign sign.Semicolon p ∷ rest)
Fits Entries v e ts rest = (a : Phrase) (x : Token) (t : List ℕ) (p : ℕ) → IsNewName a x → IsItem (Node Acl (At p) (Node Bound a e)) (a_word word.Acl t p ∷ x ∷ ts) rest

-- what is left below a part on the stack
abbrev pub under : Part → Stack → Stack
under Assignment v = pop (pop v)
under Ending v = pop v
under AfterElse v = pop v
under BackendBody v = pop (pop v)
under _ v = v

-- how what has been read so far becomes the whole at the rest
abbrev pub Carries : Tail → Phrase → Phrase → List Token → List Token → Type 0
Carries MoreAny a e ts rest = (start : List Token) → IsExpression a start ts → IsExpression e start rest
Carries MoreAll a e ts rest = (start : List Token) → IsConjunction a start ts → IsConjunction e start rest
Carries Compares a e ts rest = (start : List Token) → IsSum a start ts → IsComparison e start rest
Carries MoreSum a e ts rest = (start : List Token) → IsSum a start ts → IsSum e start rest
Carries Calls a e ts rest = (x : Token) → IsName a x → IsTerm e (x ∷ ts) rest
Carries (FirstArgument w) a e ts rest = a ≡ Nothing → (p q : ℕ) (later : List Token) → rest ≡ a_sign sign.CloseParenthesis q ∷ later → IsArguments w e (a_sign sign.OpenParenthesis p ∷ ts) later
Carries (MoreArguments w) a e ts rest = (start : List Token) → IsArgumentList w a start ts → IsArgumentList w e start rest
Carries MoreStatements a e ts rest = (start : List Token) → IsStatements a start ts → IsStatements e start rest
Carries MoreElse a e ts rest = (start : List Token) → IsConditional a start ts → IsStatement e start rest
Carries MoreAttributes a e ts rest = (start : List Token) → IsAttributes a start ts → IsAttributes e start rest
Carries Semicolon a e ts rest = (start : List Token) → IsBraced a start ts → IsValue e start rest
Carries MoreEntries a e ts rest = (start : List Token) → IsEntries a start ts → IsEntries e start rest
Carries Mask a e ts rest = (x : Token) → IsString a x → IsAddress e (x ∷ ts) rest
Carries MoreItems a e ts rest = (start : List Token) → IsItems a start ts → IsItems e start rest

-- The tokens, to their end, are what is wanted, and make the last stack of this one.
abbrev pub Sem : List Want → Stack → List Token → Stack → Type 0
Sem [] v ts last = (ts ≡ []) × (last ≡ v)
Sem (Take t ∷ s) v ts last = (p : ℕ) × (m : List Token) × (ts ≡ a_sign t p ∷ m) × Sem s v m last
Sem (AnyName ∷ s) v ts last = (e : Phrase) × (x : Token) × (m : List Token) × (ts ≡ x ∷ m) × IsName e x × Sem s (push e v) m last
Sem (NewName ∷ s) v ts last = (e : Phrase) × (x : Token) × (m : List Token) × (ts ≡ x ∷ m) × IsNewName e x × Sem s (push e v) m last
Sem (Number ∷ s) v ts last = (p : ℕ) × (n : ℤ) × (m : List Token) × (ts ≡ an_integer n p ∷ m) × Sem s (push (Integer p n) v) m last
Sem (Read part ∷ s) v ts last = (e : Phrase) × (m : List Token) × Fits part v e ts m × Sem s (push e (under part v)) m last
Sem (Go tail ∷ s) v ts last = (e : Phrase) × (m : List Token) × Carries tail (v 0) e ts m × Sem s (push e (pop v)) m last
Sem (Join l ∷ s) v ts last = Sem s (joined l v) ts last
