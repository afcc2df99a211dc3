-- A token that begins or carries on an expression keeps the meaning of what is wanted.
use Rattle.std.proofs.Common.{◌≡◌, ℕ, List, [], ◌∷◌, refl}
use Rattle.std.specs.Prelude.{Bool, true, false, Option, Some, None, if◌then◌else◌}
use Rattle.vcl_tree.specs.Phrase.{Phrase, Nothing, At, String, Weight, Integer, Duration, Node, More, Either, Both, Not, Compared, Added, Subtracted, Group, Called}
use Rattle.vcl_tree.specs.declared.token.Token.{Token}
use Rattle.vcl_tree.specs.declared.token.TokenKind.{TokenKind}
use Rattle.vcl_tree.specs.declared.token.TokenKind.TheVariants as kind
use Rattle.vcl_tree.specs.declared.token.Sign.{Sign}
use Rattle.vcl_tree.specs.declared.token.Sign.TheVariants as sign
use Rattle.vcl_tree.specs.declared.expression.Comparison.{Comparison}
use Rattle.vcl_tree.specs.Signs.{is_sign, comparison_of}
use Rattle.vcl_tree.specs.Endings.{has_zeros}
use Rattle.vcl_tree.specs.Numbers.{opposite}
use Rattle.vcl_tree.specs.Tokens.{a_sign, plain_name, word_name}
use Rattle.vcl_tree.specs.ExpressionGrammar.{conjunction, either, negation, both, comparison, not, sum, compared, term, added, subtracted, side_by_side, group, string_term, integer_term, duration_term, minus_integer, minus_duration, variable, call, no_arguments, arguments, first_argument, next_argument, weight_argument}
use Rattle.vcl_parse.specs.Machine as machine
use Rattle.vcl_parse.specs.Machine.{Want, Config, Take, Read, Go, Join, Any, All, Negation, Comparing, Sum, Term, Negated, Arguments, Argument, MoreAny, MoreAll, Compares, MoreSum, Calls, FirstArgument, MoreArguments, go, or_on, term_move, sign_term, negated_move, weight_move, from_sum, from_comparing, from_negation, from_all, from_any, at_sign, starts_term, compares, carry, read}
use Rattle.vcl_parse.specs.Starts.{term_sign_of}
use Rattle.vcl_parse.proofs.Meaning.{Stack, stack_of, Sem}
use Rattle.vcl_parse.proofs.Keeping.{at, Keeps, by, or_sign, at_one, by_test, same_stack}

sign_term_kept : (u : Sign) (p : ℕ) (s : List Want) (vs : List Phrase) (ts : List Token) (last : Stack) →
    Keeps (Sem (Read Term ∷ s) (stack_of vs) (a_sign u p ∷ ts) last) ts last (go (sign_term (term_sign_of u) p) s vs)
sign_term_kept sign.OpenParenthesis p s vs ts last = λ h. (Node Group (At p) (h.0), h.3.1, group (rw (h.3.2) at (h.2)), h.3.3)
sign_term_kept sign.Minus p s vs ts last = λ h. (h.0, h.1, h.2, h.3)
sign_term_kept _ p s vs ts last = tt

pub term_kept : (k : TokenKind) (p : ℕ) (s : List Want) (vs : List Phrase) (ts : List Token) (last : Stack) →
    Keeps (Sem (Read Term ∷ s) (stack_of vs) (at p k ∷ ts) last) ts last (go (term_move k p) s vs)
term_kept (kind.Name t) p s vs ts last = λ h. (h.0, h.1, h.2 _ plain_name, h.3)
term_kept (kind.Word w t) p s vs ts last = λ h. (h.0, h.1, h.2 _ word_name, h.3)
term_kept (kind.Integer n) p s vs ts last = λ h. (Integer p n, ts, integer_term, h)
term_kept (kind.Decimal t) p s vs ts last = tt
term_kept (kind.Duration n) p s vs ts last = λ h. (Duration p n, ts, duration_term, h)
term_kept (kind.String t) p s vs ts last = λ h. (String p t, ts, string_term, h)
term_kept (kind.Sign u) p s vs ts last = sign_term_kept u p s vs ts last

pub negated_kept : (k : TokenKind) (minus p : ℕ) (s : List Want) (vs : List Phrase) (ts : List Token) (last : Stack) →
    Keeps (Sem (Read (Negated minus) ∷ s) (stack_of vs) (at p k ∷ ts) last) ts last (go (negated_move k minus) s vs)
negated_kept (kind.Integer n) minus p s vs ts last = λ h. (Integer minus (opposite n), ts, minus_integer, h)
negated_kept (kind.Duration n) minus p s vs ts last = λ h. (Duration minus (opposite n), ts, minus_duration, h)
negated_kept _ minus p s vs ts last = tt

to_sum : (s : List Want) (v : Stack) (ts : List Token) (last : Stack) → Sem (Read Term ∷ Go MoreSum ∷ s) v ts last → Sem (Read Sum ∷ s) v ts last
to_sum s v ts last h = (h.3.0, h.3.1, h.3.2 ts (term (h.2)), h.3.3)

to_comparison : (s : List Want) (v : Stack) (ts : List Token) (last : Stack) → Sem (Read Sum ∷ Go Compares ∷ s) v ts last → Sem (Read Comparing ∷ s) v ts last
to_comparison s v ts last h = (h.3.0, h.3.1, h.3.2 ts (h.2), h.3.3)

to_conjunction : (s : List Want) (v : Stack) (ts : List Token) (last : Stack) → Sem (Read Negation ∷ Go MoreAll ∷ s) v ts last → Sem (Read All ∷ s) v ts last
to_conjunction s v ts last h = (h.3.0, h.3.1, h.3.2 ts (negation (h.2)), h.3.3)

to_expression : (s : List Want) (v : Stack) (ts : List Token) (last : Stack) → Sem (Read All ∷ Go MoreAny ∷ s) v ts last → Sem (Read Any ∷ s) v ts last
to_expression s v ts last h = (h.3.0, h.3.1, h.3.2 ts (conjunction (h.2)), h.3.3)

to_negation : (s : List Want) (v : Stack) (ts : List Token) (last : Stack) → Sem (Read Comparing ∷ s) v ts last → Sem (Read Negation ∷ s) v ts last
to_negation s v ts last h = (h.0, h.1, comparison (h.2), h.3)

pub sum_kept : (x : Token) (s : List Want) (vs : List Phrase) (ts : List Token) (last : Stack) → Keeps (Sem (Read Sum ∷ s) (stack_of vs) (x ∷ ts) last) ts last (from_sum x s vs)
sum_kept x s vs ts last = by _ _ ts last (from_sum x s vs) (to_sum s (stack_of vs) (x ∷ ts) last) (term_kept x.kind x.place (Go MoreSum ∷ s) vs ts last)

pub comparison_kept : (x : Token) (s : List Want) (vs : List Phrase) (ts : List Token) (last : Stack) → Keeps (Sem (Read Comparing ∷ s) (stack_of vs) (x ∷ ts) last) ts last (from_comparing x s vs)
comparison_kept x s vs ts last = by _ _ ts last (from_comparing x s vs) (to_comparison s (stack_of vs) (x ∷ ts) last) (sum_kept x (Go Compares ∷ s) vs ts last)

pub negation_kept : (x : Token) (s : List Want) (vs : List Phrase) (ts : List Token) (last : Stack) → Keeps (Sem (Read Negation ∷ s) (stack_of vs) (x ∷ ts) last) ts last (from_negation x s vs)
negation_kept x s vs ts last = or_sign (λ y. Sem (Read Negation ∷ s) (stack_of vs) (y ∷ ts) last) sign.Not x (At x.place ∷ []) (Read Comparing ∷ Join Not ∷ []) s vs ts last (from_comparing x s vs)
    (λ h. (Node Not (At x.place) (h.0), h.1, not (h.2), h.3))
    (λ e. by _ _ ts last (from_comparing x s vs) (to_negation s (stack_of vs) (x ∷ ts) last) (comparison_kept x s vs ts last))

pub conjunction_kept : (x : Token) (s : List Want) (vs : List Phrase) (ts : List Token) (last : Stack) → Keeps (Sem (Read All ∷ s) (stack_of vs) (x ∷ ts) last) ts last (from_all x s vs)
conjunction_kept x s vs ts last = by _ _ ts last (from_all x s vs) (to_conjunction s (stack_of vs) (x ∷ ts) last) (negation_kept x (Go MoreAll ∷ s) vs ts last)

pub expression_kept : (x : Token) (s : List Want) (vs : List Phrase) (ts : List Token) (last : Stack) → Keeps (Sem (Read Any ∷ s) (stack_of vs) (x ∷ ts) last) ts last (from_any x s vs)
expression_kept x s vs ts last = by _ _ ts last (from_any x s vs) (to_expression s (stack_of vs) (x ∷ ts) last) (conjunction_kept x (Go MoreAny ∷ s) vs ts last)

pub arguments_kept : (w : Bool) (x : Token) (s : List Want) (vs : List Phrase) (ts : List Token) (last : Stack) → Keeps (Sem (Read (Arguments w) ∷ s) (stack_of vs) (x ∷ ts) last) ts last (read (Arguments w) x s vs)
arguments_kept w x s vs ts last = at_one (λ y. Sem (Read (Arguments w) ∷ s) (stack_of vs) (y ∷ ts) last) sign.OpenParenthesis x (Nothing ∷ []) (Go (FirstArgument w) ∷ Take sign.CloseParenthesis ∷ []) s vs ts last
    (λ h. (h.0, h.3.1, h.2 refl x.place (h.3.0) (h.3.1) (h.3.2), h.3.3))

to_argument : (w : Bool) (s : List Want) (v : Stack) (ts : List Token) (last : Stack) → Sem (Read Any ∷ s) v ts last → Sem (Read (Argument w) ∷ s) v ts last
to_argument w s v ts last h = (h.0, h.1, (λ l start p before. next_argument before (h.2)), h.3)

weight_kept : (t : List ℕ) (p : ℕ) (b : Bool) (s : List Want) (vs : List Phrase) (ts : List Token) (last : Stack) (on : Option Config) → has_zeros t ≡ b →
    Keeps (Sem (Read (Argument true) ∷ s) (stack_of vs) (at p (kind.Decimal t) ∷ ts) last) ts last on →
    Keeps (Sem (Read (Argument true) ∷ s) (stack_of vs) (at p (kind.Decimal t) ∷ ts) last) ts last (or_on (if b then Some (Weight p t ∷ [], []) else None) s vs on)
weight_kept t p true s vs ts last on e k = λ h. (Weight p t, ts, (λ l start q before. weight_argument before e), h)
weight_kept t p false s vs ts last on e k = k

argument_kind : (w : Bool) (k : TokenKind) (p : ℕ) (s : List Want) (vs : List Phrase) (ts : List Token) (last : Stack) (on : Option Config) →
    Keeps (Sem (Read (Argument w) ∷ s) (stack_of vs) (at p k ∷ ts) last) ts last on →
    Keeps (Sem (Read (Argument w) ∷ s) (stack_of vs) (at p k ∷ ts) last) ts last (or_on (weight_move w k p) s vs on)
argument_kind true (kind.Decimal t) p s vs ts last on k = weight_kept t p (has_zeros t) s vs ts last on refl k
argument_kind true (kind.Name t) p s vs ts last on k = k
argument_kind true (kind.Word w t) p s vs ts last on k = k
argument_kind true (kind.Integer n) p s vs ts last on k = k
argument_kind true (kind.Duration n) p s vs ts last on k = k
argument_kind true (kind.String t) p s vs ts last on k = k
argument_kind true (kind.Sign u) p s vs ts last on k = k
argument_kind false x p s vs ts last on k = k

pub argument_kept : (w : Bool) (x : Token) (s : List Want) (vs : List Phrase) (ts : List Token) (last : Stack) → Keeps (Sem (Read (Argument w) ∷ s) (stack_of vs) (x ∷ ts) last) ts last (read (Argument w) x s vs)
argument_kept w x s vs ts last = argument_kind w x.kind x.place s vs ts last (from_any x s vs) (by _ _ ts last (from_any x s vs) (to_argument w s (stack_of vs) (x ∷ ts) last) (expression_kept x s vs ts last))

-- the chains
pub any_kept : (x : Token) (s : List Want) (vs : List Phrase) (ts : List Token) (last : Stack) (on : Option Config) → Keeps (Sem s (stack_of vs) (x ∷ ts) last) ts last on →
    Keeps (Sem (Go MoreAny ∷ s) (stack_of vs) (x ∷ ts) last) ts last (carry MoreAny x s vs on)
any_kept x s vs ts last on k = or_sign (λ y. Sem (Go MoreAny ∷ s) (stack_of vs) (y ∷ ts) last) sign.Or x [] (Read All ∷ Join Either ∷ Go MoreAny ∷ []) s vs ts last on
    (λ h. (h.3.0, h.3.1, (λ start before. h.3.2 start (either before (h.2))), h.3.3))
    (λ e. by _ _ ts last on (λ m. (stack_of vs 0, x ∷ ts, (λ start before. before), same_stack s (stack_of vs) (x ∷ ts) last m)) k)

pub all_kept : (x : Token) (s : List Want) (vs : List Phrase) (ts : List Token) (last : Stack) (on : Option Config) → Keeps (Sem s (stack_of vs) (x ∷ ts) last) ts last on →
    Keeps (Sem (Go MoreAll ∷ s) (stack_of vs) (x ∷ ts) last) ts last (carry MoreAll x s vs on)
all_kept x s vs ts last on k = or_sign (λ y. Sem (Go MoreAll ∷ s) (stack_of vs) (y ∷ ts) last) sign.And x [] (Read Negation ∷ Join Both ∷ Go MoreAll ∷ []) s vs ts last on
    (λ h. (h.3.0, h.3.1, (λ start before. h.3.2 start (both before (h.2))), h.3.3))
    (λ e. by _ _ ts last on (λ m. (stack_of vs 0, x ∷ ts, (λ start before. before), same_stack s (stack_of vs) (x ∷ ts) last m)) k)

compares_sign : (u : Sign) (p : ℕ) (o : Option Comparison) (s : List Want) (vs : List Phrase) (ts : List Token) (last : Stack) (on : Option Config) → comparison_of u ≡ o →
    Keeps (Sem (Go Compares ∷ s) (stack_of vs) (a_sign u p ∷ ts) last) ts last on →
    Keeps (Sem (Go Compares ∷ s) (stack_of vs) (a_sign u p ∷ ts) last) ts last (or_on (machine.compared o) s vs on)
compares_sign u p (Some how) s vs ts last on e k = λ h. (Node (Compared how) (stack_of vs 0) (h.0), h.1, (λ start before. compared before e (h.2)), h.3)
compares_sign u p None s vs ts last on e k = k

compares_kind : (k : TokenKind) (p : ℕ) (s : List Want) (vs : List Phrase) (ts : List Token) (last : Stack) (on : Option Config) →
    Keeps (Sem (Go Compares ∷ s) (stack_of vs) (at p k ∷ ts) last) ts last on →
    Keeps (Sem (Go Compares ∷ s) (stack_of vs) (at p k ∷ ts) last) ts last (or_on (compares k) s vs on)
compares_kind (kind.Sign u) p s vs ts last on k = compares_sign u p (comparison_of u) s vs ts last on refl k
compares_kind _ p s vs ts last on k = k

pub compares_kept : (x : Token) (s : List Want) (vs : List Phrase) (ts : List Token) (last : Stack) (on : Option Config) → Keeps (Sem s (stack_of vs) (x ∷ ts) last) ts last on →
    Keeps (Sem (Go Compares ∷ s) (stack_of vs) (x ∷ ts) last) ts last (carry Compares x s vs on)
compares_kept x s vs ts last on k = compares_kind x.kind x.place s vs ts last on
    (by _ _ ts last on (λ m. (stack_of vs 0, x ∷ ts, (λ start before. sum before), same_stack s (stack_of vs) (x ∷ ts) last m)) k)

pub more_sum_kept : (x : Token) (s : List Want) (vs : List Phrase) (ts : List Token) (last : Stack) (on : Option Config) → Keeps (Sem s (stack_of vs) (x ∷ ts) last) ts last on →
    Keeps (Sem (Go MoreSum ∷ s) (stack_of vs) (x ∷ ts) last) ts last (carry MoreSum x s vs on)
more_sum_kept x s vs ts last on k =
    let goal : Token → Type 0 = λ y. Sem (Go MoreSum ∷ s) (stack_of vs) (y ∷ ts) last in
    let side : Option Config = go (term_move x.kind x.place) (Join Added ∷ Go MoreSum ∷ s) vs in
    let third : Option Config = if starts_term x.kind then side else on in
    or_sign goal sign.Plus x [] (Read Term ∷ Join Added ∷ Go MoreSum ∷ []) s vs ts last (or_on (at_sign sign.Minus x [] (Read Term ∷ Join Subtracted ∷ Go MoreSum ∷ [])) s vs third)
    (λ h. (h.3.0, h.3.1, (λ start before. h.3.2 start (added before (h.2))), h.3.3))
    (λ e. or_sign goal sign.Minus x [] (Read Term ∷ Join Subtracted ∷ Go MoreSum ∷ []) s vs ts last third
    (λ h. (h.3.0, h.3.1, (λ start before. h.3.2 start (subtracted before (h.2))), h.3.3))
    (λ f. by_test (goal x) ts last side on (starts_term x.kind)
    (by (Sem (Read Term ∷ Join Added ∷ Go MoreSum ∷ s) (stack_of vs) (x ∷ ts) last) (goal x) ts last side (λ h. (h.3.0, h.3.1, (λ start before. h.3.2 start (side_by_side before f (h.2))), h.3.3)) (term_kept x.kind x.place (Join Added ∷ Go MoreSum ∷ s) vs ts last))
    (by (Sem s (stack_of vs) (x ∷ ts) last) (goal x) ts last on (λ m. (stack_of vs 0, x ∷ ts, (λ start before. before), same_stack s (stack_of vs) (x ∷ ts) last m)) k)))

pub calls_kept : (x : Token) (s : List Want) (vs : List Phrase) (ts : List Token) (last : Stack) (on : Option Config) → Keeps (Sem s (stack_of vs) (x ∷ ts) last) ts last on →
    Keeps (Sem (Go Calls ∷ s) (stack_of vs) (x ∷ ts) last) ts last (carry Calls x s vs on)
calls_kept x s vs ts last on k = or_sign (λ y. Sem (Go Calls ∷ s) (stack_of vs) (y ∷ ts) last) sign.OpenParenthesis x (Nothing ∷ []) (Go (FirstArgument false) ∷ Take sign.CloseParenthesis ∷ Join Called ∷ []) s vs ts last on
    (λ h. (Node Called (stack_of vs 0) (h.0), h.3.1, (λ y n. call n (h.2 refl x.place (h.3.0) (h.3.1) (h.3.2))), h.3.3))
    (λ e. by _ _ ts last on (λ m. (stack_of vs 0, x ∷ ts, (λ y n. variable n e), same_stack s (stack_of vs) (x ∷ ts) last m)) k)

pub first_argument_kept : (w : Bool) (x : Token) (s : List Want) (vs : List Phrase) (ts : List Token) (last : Stack) (on : Option Config) → Keeps (Sem s (stack_of vs) (x ∷ ts) last) ts last on →
    Keeps (Sem (Go (FirstArgument w) ∷ s) (stack_of vs) (x ∷ ts) last) ts last (carry (FirstArgument w) x s vs on)
first_argument_kept w x s vs ts last on k =
    let goal : Type 0 = Sem (Go (FirstArgument w) ∷ s) (stack_of vs) (x ∷ ts) last in
    let some : Option Config = from_any x (Join More ∷ Go (MoreArguments w) ∷ s) vs in
    by_test goal ts last on some (is_sign sign.CloseParenthesis x)
    (by (Sem s (stack_of vs) (x ∷ ts) last) goal ts last on (λ m. (stack_of vs 0, x ∷ ts, (λ n p q later e. rw e (rw n no_arguments)), same_stack s (stack_of vs) (x ∷ ts) last m)) k)
    (by (Sem (Read Any ∷ Join More ∷ Go (MoreArguments w) ∷ s) (stack_of vs) (x ∷ ts) last) goal ts last some
    (λ h. (h.3.0, h.3.1, (λ n p q later e. arguments (rw e at (h.3.2 (x ∷ ts) (rw n (first_argument (h.2)))))), h.3.3))
    (expression_kept x (Join More ∷ Go (MoreArguments w) ∷ s) vs ts last))

pub more_arguments_kept : (w : Bool) (x : Token) (s : List Want) (vs : List Phrase) (ts : List Token) (last : Stack) (on : Option Config) → Keeps (Sem s (stack_of vs) (x ∷ ts) last) ts last on →
    Keeps (Sem (Go (MoreArguments w) ∷ s) (stack_of vs) (x ∷ ts) last) ts last (carry (MoreArguments w) x s vs on)
more_arguments_kept w x s vs ts last on k = or_sign (λ y. Sem (Go (MoreArguments w) ∷ s) (stack_of vs) (y ∷ ts) last) sign.Comma x [] (Read (Argument w) ∷ Join More ∷ Go (MoreArguments w) ∷ []) s vs ts last on
    (λ h. (h.3.0, h.3.1, (λ start before. h.3.2 start (h.2 (stack_of vs 0) start x.place before)), h.3.3))
    (λ e. by _ _ ts last on (λ m. (stack_of vs 0, x ∷ ts, (λ start before. before), same_stack s (stack_of vs) (x ∷ ts) last m)) k)
