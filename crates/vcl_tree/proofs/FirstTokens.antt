-- What is read begins at the first token.
use Rattle.std.proofs.Common.{◌≡◌, ℕ, List, ◌∷◌, Some, refl, sym, ◌∙◌}
use Rattle.vcl_tree.specs.Phrase.{Phrase, Label, Node}
use Rattle.vcl_tree.specs.declared.token.Token.{Token}
use Rattle.vcl_tree.specs.Places.{place_of, first_place}
use Rattle.vcl_tree.specs.Tokens.{IsName, plain_name, word_name}
use Rattle.vcl_tree.specs.ExpressionGrammar.{IsExpression, conjunction, either, IsConjunction, negation, both, IsNegation, comparison, not, IsComparison, sum, compared, IsSum, term, added, subtracted, side_by_side, IsTerm, group, string_term, integer_term, duration_term, minus_integer, minus_duration, variable, call}
use Rattle.vcl_tree.specs.StatementGrammar.{IsStatement, set, append, unset, jump, new, conditional, otherwise, return, return_with, run, IsConditional, first_branch, else_if, else_then_if}

-- a phrase and the tokens that it is read from begin at one place
pub record BeginsAt (e : Phrase) (tokens : List Token) : Type 0 where
  pub place : ℕ
  pub phrase : place_of e ≡ Some place
  pub first : first_place tokens ≡ Some place

pub same : {e : Phrase} {tokens : List Token} → BeginsAt e tokens → place_of e ≡ first_place tokens
same b = b.phrase ∙ sym b.first

-- what a first part begins
first_part : {a : Phrase} {tokens : List Token} (label : Label) (b : Phrase) → BeginsAt a tokens → BeginsAt (Node label a b) tokens
first_part label b begins = record { place = begins.place; phrase = rw (begins.phrase) refl; first = begins.first }

name : {e : Phrase} {x : Token} → IsName e x → (rest : List Token) → BeginsAt e (x ∷ rest)
name (plain_name {p}) rest = record { place = p; phrase = refl; first = refl }
name (word_name {p}) rest = record { place = p; phrase = refl; first = refl }

mutual
  pub expression : {e : Phrase} {ts rest : List Token} → IsExpression e ts rest → BeginsAt e ts
  expression (conjunction h) = conjunction_begins h
  expression (either h k) = first_part _ _ (expression h)

  conjunction_begins : {e : Phrase} {ts rest : List Token} → IsConjunction e ts rest → BeginsAt e ts
  conjunction_begins (negation h) = negation_begins h
  conjunction_begins (both h k) = first_part _ _ (conjunction_begins h)

  negation_begins : {e : Phrase} {ts rest : List Token} → IsNegation e ts rest → BeginsAt e ts
  negation_begins (comparison h) = comparison_begins h
  negation_begins (not {p = p} h) = record { place = p; phrase = refl; first = refl }

  comparison_begins : {e : Phrase} {ts rest : List Token} → IsComparison e ts rest → BeginsAt e ts
  comparison_begins (sum h) = sum_begins h
  comparison_begins (compared h how k) = first_part _ _ (sum_begins h)

  sum_begins : {e : Phrase} {ts rest : List Token} → IsSum e ts rest → BeginsAt e ts
  sum_begins (term h) = term_begins h
  sum_begins (added h k) = first_part _ _ (sum_begins h)
  sum_begins (subtracted h k) = first_part _ _ (sum_begins h)
  sum_begins (side_by_side h n k) = first_part _ _ (sum_begins h)

  term_begins : {e : Phrase} {ts rest : List Token} → IsTerm e ts rest → BeginsAt e ts
  term_begins (group {p = p} h) = record { place = p; phrase = refl; first = refl }
  term_begins (string_term {p = p}) = record { place = p; phrase = refl; first = refl }
  term_begins (integer_term {p = p}) = record { place = p; phrase = refl; first = refl }
  term_begins (duration_term {p = p}) = record { place = p; phrase = refl; first = refl }
  term_begins (minus_integer {p = p}) = record { place = p; phrase = refl; first = refl }
  term_begins (minus_duration {p = p}) = record { place = p; phrase = refl; first = refl }
  term_begins (variable h n) = name h _
  term_begins (call h k) = first_part _ _ (name h _)

conditional_begins : {e : Phrase} {ts rest : List Token} → IsConditional e ts rest → BeginsAt e ts
conditional_begins (first_branch {p = p} h) = record { place = p; phrase = refl; first = refl }
conditional_begins (else_if h k) = first_part _ _ (conditional_begins h)
conditional_begins (else_then_if h k) = first_part _ _ (conditional_begins h)

pub statement : {e : Phrase} {ts rest : List Token} → IsStatement e ts rest → BeginsAt e ts
statement (set {p = p} h k) = record { place = p; phrase = refl; first = refl }
statement (append {p = p} h k) = record { place = p; phrase = refl; first = refl }
statement (unset {p = p} h) = record { place = p; phrase = refl; first = refl }
statement (jump {p = p} h) = record { place = p; phrase = refl; first = refl }
statement (new {p = p} h k l) = record { place = p; phrase = refl; first = refl }
statement (conditional h) = conditional_begins h
statement (otherwise h k) = first_part _ _ (conditional_begins h)
statement (return {p = p} h) = record { place = p; phrase = refl; first = refl }
statement (return_with {p = p} h k) = record { place = p; phrase = refl; first = refl }
statement (run {p = p} h) = record { place = p; phrase = refl; first = refl }
