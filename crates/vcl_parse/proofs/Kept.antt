-- What is wanted behind a token means, with the token in front, what was wanted at it.
use Rattle.std.proofs.Common.{◌≡◌, ℕ, List, [], ◌∷◌, refl}
use Rattle.std.specs.Prelude.{Bool, true, false, Option, Some, None, if◌then◌else◌}
use Rattle.vcl_tree.specs.Phrase.{Phrase, Named}
use Rattle.vcl_tree.specs.declared.token.Token.{Token}
use Rattle.vcl_tree.specs.declared.token.TokenKind.{TokenKind}
use Rattle.vcl_tree.specs.declared.token.TokenKind.TheVariants as kind
use Rattle.vcl_tree.specs.declared.token.Sign.{Sign}
use Rattle.vcl_tree.specs.Signs.{is_sign}
use Rattle.vcl_tree.specs.Tokens.{plain_name, word_name, new_name}
use Rattle.vcl_parse.specs.Machine.{Part, Tail, Want, Config, Take, AnyName, NewName, Number, Read, Go, Join, Any, All, Negation, Comparing, Sum, Term, Negated, Arguments, Argument, Assignment, Ending, Condition, Block, AfterElse, Value, Attributes, BackendBody, Address, Entries, MoreAny, MoreAll, Compares, MoreSum, Calls, FirstArgument, MoreArguments, MoreStatements, MoreElse, MoreAttributes, Semicolon, MoreEntries, Mask, MoreItems, go, name_move, new_name_move, number_move, step, read, carry, join}
use Rattle.vcl_parse.proofs.SameSign.{as_sign}
use Rattle.vcl_parse.proofs.Meaning.{Stack, stack_of, Sem}
use Rattle.vcl_parse.proofs.Keeping.{at, Keeps}
use Rattle.vcl_parse.proofs.KeptExpressions.{expression_kept, conjunction_kept, negation_kept, comparison_kept, sum_kept, term_kept, negated_kept, arguments_kept, argument_kept, any_kept, all_kept, compares_kept, more_sum_kept, calls_kept, first_argument_kept, more_arguments_kept}
use Rattle.vcl_parse.proofs.KeptStatements.{statements_kept, else_kept, after_else_kept, block_kept, condition_kept, assignment_kept, ending_kept}
use Rattle.vcl_parse.proofs.KeptItems.{value_kept, attributes_kept, entries_kept, backend_kept, address_kept, more_entries_kept, more_attributes_kept, semicolon_kept, mask_kept, items_kept}

read_kept : (part : Part) (x : Token) (s : List Want) (vs : List Phrase) (ts : List Token) (last : Stack) → Keeps (Sem (Read part ∷ s) (stack_of vs) (x ∷ ts) last) ts last (read part x s vs)
read_kept Any x s vs ts last = expression_kept x s vs ts last
read_kept All x s vs ts last = conjunction_kept x s vs ts last
read_kept Negation x s vs ts last = negation_kept x s vs ts last
read_kept Comparing x s vs ts last = comparison_kept x s vs ts last
read_kept Sum x s vs ts last = sum_kept x s vs ts last
read_kept Term x s vs ts last = term_kept x.kind x.place s vs ts last
read_kept (Negated p) x s vs ts last = negated_kept x.kind p x.place s vs ts last
read_kept (Arguments w) x s vs ts last = arguments_kept w x s vs ts last
read_kept (Argument w) x s vs ts last = argument_kept w x s vs ts last
read_kept Assignment x s vs ts last = assignment_kept x s vs ts last
read_kept Ending x s vs ts last = ending_kept x s vs ts last
read_kept Condition x s vs ts last = condition_kept x s vs ts last
read_kept Block x s vs ts last = block_kept x s vs ts last
read_kept AfterElse x s vs ts last = after_else_kept x s vs ts last
read_kept Value x s vs ts last = value_kept x s vs ts last
read_kept Attributes x s vs ts last = attributes_kept x s vs ts last
read_kept BackendBody x s vs ts last = backend_kept x s vs ts last
read_kept Address x s vs ts last = address_kept x s vs ts last
read_kept Entries x s vs ts last = entries_kept x s vs ts last

carry_kept : (tail : Tail) (x : Token) (s : List Want) (vs : List Phrase) (ts : List Token) (last : Stack) (on : Option Config) → Keeps (Sem s (stack_of vs) (x ∷ ts) last) ts last on →
    Keeps (Sem (Go tail ∷ s) (stack_of vs) (x ∷ ts) last) ts last (carry tail x s vs on)
carry_kept MoreAny x s vs ts last on k = any_kept x s vs ts last on k
carry_kept MoreAll x s vs ts last on k = all_kept x s vs ts last on k
carry_kept Compares x s vs ts last on k = compares_kept x s vs ts last on k
carry_kept MoreSum x s vs ts last on k = more_sum_kept x s vs ts last on k
carry_kept Calls x s vs ts last on k = calls_kept x s vs ts last on k
carry_kept (FirstArgument w) x s vs ts last on k = first_argument_kept w x s vs ts last on k
carry_kept (MoreArguments w) x s vs ts last on k = more_arguments_kept w x s vs ts last on k
carry_kept MoreStatements x s vs ts last on k = statements_kept x s vs ts last on k
carry_kept MoreElse x s vs ts last on k = else_kept x s vs ts last on k
carry_kept MoreAttributes x s vs ts last on k = more_attributes_kept x s vs ts last on k
carry_kept Semicolon x s vs ts last on k = semicolon_kept x s vs ts last on k
carry_kept MoreEntries x s vs ts last on k = more_entries_kept x s vs ts last on k
carry_kept Mask x s vs ts last on k = mask_kept x s vs ts last on k
carry_kept MoreItems x s vs ts last on k = items_kept x s vs ts last on k

take_kept : (t : Sign) (x : Token) (s : List Want) (vs : List Phrase) (ts : List Token) (last : Stack) (b : Bool) → is_sign t x ≡ b →
    Keeps (Sem (Take t ∷ s) (stack_of vs) (x ∷ ts) last) ts last (if b then Some (s, vs) else None)
take_kept t x s vs ts last true e = λ h. as_sign (λ y. Sem (Take t ∷ s) (stack_of vs) (y ∷ ts) last) t x e (x.place, ts, refl, h)
take_kept t x s vs ts last false e = tt

name_kept : (k : TokenKind) (p : ℕ) (s : List Want) (vs : List Phrase) (ts : List Token) (last : Stack) → Keeps (Sem (AnyName ∷ s) (stack_of vs) (at p k ∷ ts) last) ts last (go (name_move k p) s vs)
name_kept (kind.Name t) p s vs ts last = λ h. (Named p t, _, ts, refl, plain_name, h)
name_kept (kind.Word w t) p s vs ts last = λ h. (Named p t, _, ts, refl, word_name, h)
name_kept _ p s vs ts last = tt

new_name_kept : (k : TokenKind) (p : ℕ) (s : List Want) (vs : List Phrase) (ts : List Token) (last : Stack) → Keeps (Sem (NewName ∷ s) (stack_of vs) (at p k ∷ ts) last) ts last (go (new_name_move k p) s vs)
new_name_kept (kind.Name t) p s vs ts last = λ h. (Named p t, _, ts, refl, new_name, h)
new_name_kept _ p s vs ts last = tt

number_kept : (k : TokenKind) (p : ℕ) (s : List Want) (vs : List Phrase) (ts : List Token) (last : Stack) → Keeps (Sem (Number ∷ s) (stack_of vs) (at p k ∷ ts) last) ts last (go (number_move k p) s vs)
number_kept (kind.Integer n) p s vs ts last = λ h. (p, n, ts, refl, h)
number_kept _ p s vs ts last = tt

pub kept : (s : List Want) (vs : List Phrase) (x : Token) (ts : List Token) (last : Stack) → Keeps (Sem s (stack_of vs) (x ∷ ts) last) ts last (step s vs x)
kept [] vs x ts last = tt
kept (Take t ∷ s) vs x ts last = take_kept t x s vs ts last (is_sign t x) refl
kept (AnyName ∷ s) vs x ts last = name_kept x.kind x.place s vs ts last
kept (NewName ∷ s) vs x ts last = new_name_kept x.kind x.place s vs ts last
kept (Number ∷ s) vs x ts last = number_kept x.kind x.place s vs ts last
kept (Read part ∷ s) vs x ts last = read_kept part x s vs ts last
kept (Go tail ∷ s) vs x ts last = carry_kept tail x s vs ts last (step s vs x) (kept s vs x ts last)
kept (Join l ∷ s) [] x ts last = kept s (join l []) x ts last
kept (Join l ∷ s) (b ∷ []) x ts last = kept s (join l (b ∷ [])) x ts last
kept (Join l ∷ s) (b ∷ a ∷ vs) x ts last = kept s (join l (b ∷ a ∷ vs)) x ts last
