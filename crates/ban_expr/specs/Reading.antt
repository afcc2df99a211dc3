-- The ban that words say, and what is wrong with words that say none (varnish-cli(7), "ban": a field, an operator and
-- an argument, with `&&` between two such conditions).
use Rattle.std.specs.Prelude.{◌≡◌, ◌⊎◌, ◌<◌, ◌≤◌, ⊤, ℕ, pos, true, List, [], ◌∷◌, length, codes, Some, None, IsSome, IsSomeAnd, MatchOption, Result, Ok, Err}
use Rattle.units.specs.Durations.{IsDuration}
use Rattle.cache_law.specs.declared.ban.Condition.{Condition}
use Rattle.cache_law.specs.declared.ban.Condition.TheVariants.{OnText, OnTime}
use Rattle.ban_expr.specs.declared.error.BanError.{BanError}
use Rattle.ban_expr.specs.declared.error.BanError.TheVariants.{Field, Operator, Argument, Pattern, Shape, NoMemory}
use Rattle.ban_expr.specs.declared.subjects.Subject.{Subject}
use Rattle.ban_expr.specs.declared.subjects.Subject.TheVariants.{OfText, OfTime}
use Rattle.ban_expr.specs.declared.subjects.TextSubject.{TextSubject}
use Rattle.ban_expr.specs.Fields.{subject_of, text_field}
use Rattle.ban_expr.specs.Operators.{text_operator, comparison_of, is_search, IsPattern, IsNoPattern}

-- the three words of a condition
pub record Clause : Type 0 where
  pub field : List ℕ
  pub operator : List ℕ
  pub argument : List ℕ

abbrev pub clause : List ℕ → List ℕ → List ℕ → Clause
clause field operator argument = record { field = field; operator = operator; argument = argument }

-- the words of clauses, with `&&` between two
abbrev pub joined : List Clause → List (List ℕ)
joined [] = []
joined (c ∷ []) = c.field ∷ c.operator ∷ c.argument ∷ []
joined (c ∷ next ∷ more) = c.field ∷ c.operator ∷ c.argument ∷ codes "&&" ∷ joined (next ∷ more)

-- the words are some clauses, at least one
abbrev pub AreClauses : List (List ℕ) → Type 0
AreClauses words = (clauses : List Clause) × (0 < length clauses) × (words ≡ joined clauses)

-- so many conditions at most
abbrev pub most_conditions : ℕ
most_conditions = 16

-- the words are these clauses, at least one and at most sixteen
pub record IsMadeOf (words : List (List ℕ)) (clauses : List Clause) : Type 0 where
  pub spelled : words ≡ joined clauses
  pub some : 0 < length clauses
  pub few : length clauses ≤ most_conditions

-- The clause says the condition: a field with an operator of its kind; a text's argument is a pattern where the
-- operator searches for one, and a time's is a duration.
abbrev pub Says : Clause → Condition → Type 0
Says c (OnText field operator argument) =
    ((subject : TextSubject) × (subject_of c.field ≡ Some (OfText subject)) × (field ≡ text_field subject c.field))
    × (text_operator c.operator ≡ Some operator)
    × (argument ≡ c.argument)
    × (is_search operator ≡ true → IsPattern c.argument)
Says c (OnTime field comparison milliseconds) =
    (subject_of c.field ≡ Some (OfTime field))
    × (comparison_of c.operator ≡ Some comparison)
    × ((n : ℕ) × (milliseconds ≡ pos n) × IsDuration c.argument n)

-- what is wrong with the operator and the argument of a text
abbrev pub IsWrongText : Clause → BanError → Type 0
IsWrongText c Operator = text_operator c.operator ≡ None
IsWrongText c Pattern = IsSomeAnd (text_operator c.operator) (λ operator. is_search operator ≡ true) × IsNoPattern c.argument
IsWrongText c NoMemory = IsSomeAnd (text_operator c.operator) (λ operator. is_search operator ≡ true)
IsWrongText c error = ⊥

-- and with those of a time
abbrev pub IsWrongTime : Clause → BanError → Type 0
IsWrongTime c Operator = comparison_of c.operator ≡ None
IsWrongTime c Argument = IsSome (comparison_of c.operator) × ((n : ℕ) → IsDuration c.argument n → ⊥)
IsWrongTime c error = ⊥

abbrev pub IsWrongOf : Subject → Clause → BanError → Type 0
IsWrongOf (OfText subject) c error = IsWrongText c error
IsWrongOf (OfTime field) c error = IsWrongTime c error

-- What is wrong with a clause, in the order of its words. Want of memory says that its argument has to be tried as a
-- pattern.
abbrev pub IsWrong : Clause → BanError → Type 0
IsWrong c error = MatchOption (subject_of c.field) (error ≡ Field) (λ subject. IsWrongOf subject c error)

-- each clause says the condition at its place
abbrev pub SayAll : List Clause → List Condition → Type 0
SayAll [] [] = ⊤
SayAll (c ∷ clauses) (condition ∷ conditions) = Says c condition × SayAll clauses conditions
SayAll clauses conditions = ⊥

-- the first clause that says no condition is wrong so
abbrev pub IsFirstWrong : List Clause → BanError → Type 0
IsFirstWrong [] error = ⊥
IsFirstWrong (c ∷ clauses) error = IsWrong c error ⊎ (((condition : Condition) × Says c condition) × IsFirstWrong clauses error)

-- what a check of clauses tells: that they say conditions, or what is wrong with the first that says none
abbrev pub IsChecked : {X : Type 0} → List Clause → Result X BanError → Type 0
IsChecked clauses (Ok x) = (conditions : List Condition) × SayAll clauses conditions
IsChecked clauses (Err error) = IsFirstWrong clauses error

-- the words say these conditions
pub record Reads (words : List (List ℕ)) (conditions : List Condition) : Type 0 where
  pub clauses : List Clause
  pub made : IsMadeOf words clauses
  pub each : SayAll clauses conditions

-- the words are clauses, and the first that says no condition is wrong so
pub record IsRefusedBy (words : List (List ℕ)) (error : BanError) : Type 0 where
  pub clauses : List Clause
  pub made : IsMadeOf words clauses
  pub first : IsFirstWrong clauses error

-- What an error says of the words. Want of memory comes only once the words before it say conditions: at a pattern
-- that has to be tried, or where all is read.
abbrev pub IsRefusal : List (List ℕ) → BanError → Type 0
IsRefusal words Shape = (clauses : List Clause) → IsMadeOf words clauses → ⊥
IsRefusal words NoMemory = IsRefusedBy words NoMemory ⊎ ((conditions : List Condition) × Reads words conditions)
IsRefusal words error = IsRefusedBy words error
