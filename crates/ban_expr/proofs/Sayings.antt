-- What clauses say, and what is wrong with them.
use Rattle.std.proofs.Common.{◌≡◌, ◌≤◌, ℕ, ℤ, pos, true, false, Some, Result, Ok, Err, MatchResult, List, refl, sym, ◌∙◌, ap, arith}
use Rattle.std.proofs.lemmas.Bool.{false≢true}
use Rattle.std.proofs.lemmas.Int.{ints, to_z-of_z}
use Rattle.std.specs.Int.{w64, cast_signed, cast_unsigned}
use Rattle.units.specs.Durations.{IsDuration}
use Rattle.cache_law.specs.declared.ban.Condition.{Condition}
use Rattle.cache_law.specs.declared.ban.Condition.TheVariants.{OnText, OnTime}
use Rattle.cache_law.specs.declared.ban.TextOperator.{TextOperator}
use Rattle.cache_law.specs.declared.ban.TimeField.{TimeField}
use Rattle.vcl_values.specs.declared.comparisons.Comparison.{Comparison}
use Rattle.ban_expr.specs.declared.error.BanError.{BanError}
use Rattle.ban_expr.specs.declared.error.BanError.TheVariants.{Field, Operator, Argument, Pattern, Shape, NoMemory}
use Rattle.ban_expr.specs.declared.plans.Plan.TheVariants as plan
use Rattle.ban_expr.specs.declared.subjects.Subject.TheVariants.{OfText, OfTime}
use Rattle.ban_expr.specs.declared.subjects.TextSubject.{TextSubject}
use Rattle.ban_expr.specs.Fields.{subject_of, text_field}
use Rattle.ban_expr.specs.Operators.{is_search, IsPattern}
use Rattle.ban_expr.specs.Plans.{IsPlanned, IsTried}
use Rattle.ban_expr.specs.Reading.{Clause, Says, IsWrong}

-- a time whose argument is no duration says nothing
pub no_duration : (c : Clause) (field : TimeField) → subject_of c.field ≡ Some (OfTime field) → ((n : ℕ) → IsDuration c.argument n → ⊥)
    → (condition : Condition) → Says c condition → ⊥
no_duration c field e h (OnText f o a) s = let named : subject_of c.field ≡ Some (OfText s.0.0) = s.0.1 in cc
no_duration c field e h (OnTime f k m) s = h s.2.0 s.2.2

-- a text with an operator that searches for nothing says a condition
pub plain_said : (c : Clause) (subject : TextSubject) (operator : TextOperator) → IsPlanned c (plan.OnText subject operator) → is_search operator ≡ false
    → (condition : Condition) × Says c condition
plain_said c subject operator p e =
    (OnText (text_field subject c.field) operator c.argument, ((subject, p.0, refl), p.1, refl, λ t. absurd (false≢true (sym e ∙ t))))

-- a time says a condition
pub time_said : (c : Clause) (field : TimeField) (comparison : Comparison) (m : ℤ) → IsPlanned c (plan.OnTime field comparison m)
    → (condition : Condition) × Says c condition
time_said c field comparison m p = (OnTime field comparison m, p)

-- what trying its argument tells of a text with an operator that searches
pub tried_said : {X : Type 0} (c : Clause) (subject : TextSubject) (operator : TextOperator) → IsPlanned c (plan.OnText subject operator)
    → is_search operator ≡ true → (r : Result X BanError) → MatchResult r (λ _. IsPattern c.argument) (IsTried c.argument)
    → MatchResult r (λ _. (condition : Condition) × Says c condition) (IsWrong c)
tried_said c subject operator p e (Ok x) h =
    (OnText (text_field subject c.field) operator c.argument, ((subject, p.0, refl), p.1, refl, λ t. h))
tried_said c subject operator p e (Err Pattern) h = rw (p.0, p.1) (e, h)
tried_said c subject operator p e (Err NoMemory) h = rw (p.0, p.1) e
tried_said c subject operator p e (Err Field) h = absurd h
tried_said c subject operator p e (Err Operator) h = absurd h
tried_said c subject operator p e (Err Argument) h = absurd h
tried_said c subject operator p e (Err Shape) h = absurd h

-- a time says one condition
pub time_same : (c : Clause) (field : TimeField) (comparison : Comparison) (m : ℤ) → IsPlanned c (plan.OnTime field comparison m)
    → ((a b : ℕ) → IsDuration c.argument a → IsDuration c.argument b → a ≡ b) → (said : Condition) → Says c said → OnTime field comparison m ≡ said
time_same c field comparison m p one (OnText f o a) s = let named : subject_of c.field ≡ Some (OfText s.0.0) = s.0.1 in cc
time_same c field comparison m p one (OnTime f k z) s =
    let same : p.2.0 ≡ s.2.0 = one p.2.0 s.2.0 p.2.2 s.2.2 in
    let number : m ≡ z = p.2.1 ∙ ap pos same ∙ sym s.2.1 in
    let named : field ≡ f = cc in
    let compared : comparison ≡ k = cc in
    cc

-- the milliseconds of a duration are a number of 64 bits with a sign
pub millis_kept : (bytes : List ℕ) (m : ℤ) (n : ℕ) → m ≡ pos n → IsDuration bytes n → cast_signed w64 (cast_unsigned w64 m) ≡ m
millis_kept bytes m n e d = let range : n ≤ 10000000000000 = d.range in grind (arith, ints, to_z-of_z)
