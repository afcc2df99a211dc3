-- Clauses that are checked and built one after another.
use Rattle.std.proofs.Common.{◌≡◌, ◌<◌, ℕ, List, [], ◌∷◌, length, Result, Ok, Err, refl, inl, inr}
use Rattle.cache_law.specs.declared.ban.Condition.{Condition}
use Rattle.ban_expr.specs.declared.error.BanError.{BanError}
use Rattle.ban_expr.specs.Reading.{Clause, clause, joined, Says, SayAll, IsWrong, IsFirstWrong, IsChecked}
use Rattle.ban_expr.proofs.Joined.{behind, last_clause}

-- the first clause is wrong
pub first_wrong : (words : List (List ℕ)) (f o a : List ℕ) (rest : List (List ℕ)) (error : BanError) → words ≡ f ∷ o ∷ a ∷ rest → IsWrong (clause f o a) error
    → (clauses : List Clause) → 0 < length clauses → words ≡ joined clauses → IsFirstWrong clauses error
first_wrong words f o a [] error e wrong clauses some d = rw (last_clause words f o a [] clauses e refl d) (inl wrong)
first_wrong words f o a (j ∷ rest) error e wrong clauses some d =
    let b = behind words f o a j rest clauses e d in rw (b.is) (inl wrong)

-- the one clause says a condition
pub last_says : (words : List (List ℕ)) (f o a : List ℕ) (rest : List (List ℕ)) → words ≡ f ∷ o ∷ a ∷ rest → length rest ≡ 0
    → ((condition : Condition) × Says (clause f o a) condition)
    → (clauses : List Clause) → words ≡ joined clauses → (conditions : List Condition) × SayAll clauses conditions
last_says words f o a rest e none (condition, says) clauses d =
    rw (last_clause words f o a rest clauses e none d) (condition ∷ [], (says, tt))

-- the first clause says a condition, and the others are checked
pub more_checked : {X : Type 0} (words : List (List ℕ)) (f o a j : List ℕ) (rest : List (List ℕ)) → words ≡ f ∷ o ∷ a ∷ j ∷ rest
    → ((condition : Condition) × Says (clause f o a) condition) → (r : Result X BanError)
    → ((clauses : List Clause) → 0 < length clauses → rest ≡ joined clauses → IsChecked clauses r)
    → (clauses : List Clause) → words ≡ joined clauses → IsChecked clauses r
more_checked words f o a j rest e said (Ok x) checked clauses d =
    let b = behind words f o a j rest clauses e d in
    let others = checked b.more b.some b.rest_is in
    rw (b.is) (said.0 ∷ others.0, (said.1, others.1))
more_checked words f o a j rest e said (Err error) checked clauses d =
    let b = behind words f o a j rest clauses e d in
    rw (b.is) (inr (said, checked b.more b.some b.rest_is))

-- of conditions that clauses say, the first clause says the first
pub last_said : (words : List (List ℕ)) (f o a : List ℕ) (rest : List (List ℕ)) → words ≡ f ∷ o ∷ a ∷ rest → length rest ≡ 0
    → (clauses : List Clause) → words ≡ joined clauses → (conditions : List Condition) → SayAll clauses conditions
    → (condition : Condition) × (conditions ≡ condition ∷ []) × Says (clause f o a) condition
last_said words f o a rest e none clauses d conditions say =
    said conditions (rw (last_clause words f o a rest clauses e none d) at say)
  where
    said : (conditions : List Condition) → SayAll (clause f o a ∷ []) conditions → (condition : Condition) × (conditions ≡ condition ∷ []) × Says (clause f o a) condition
    said [] s = absurd s
    said (condition ∷ []) s = (condition, refl, s.0)
    said (condition ∷ next ∷ more) s = absurd s.1

-- and the others say the others
pub record SaidMore (f o a : List ℕ) (rest : List (List ℕ)) (conditions : List Condition) : Type 0 where
  pub condition : Condition
  pub others : List Condition
  pub is : conditions ≡ condition ∷ others
  pub says : Says (clause f o a) condition
  pub clauses : List Clause
  pub some : 0 < length clauses
  pub rest_is : rest ≡ joined clauses
  pub say : SayAll clauses others

pub more_said : (words : List (List ℕ)) (f o a j : List ℕ) (rest : List (List ℕ)) → words ≡ f ∷ o ∷ a ∷ j ∷ rest
    → (clauses : List Clause) → words ≡ joined clauses → (conditions : List Condition) → SayAll clauses conditions → SaidMore f o a rest conditions
more_said words f o a j rest e clauses d conditions say =
    let b = behind words f o a j rest clauses e d in
    said b.more b.some b.rest_is conditions (rw (b.is) at say)
  where
    said : (more : List Clause) → 0 < length more → rest ≡ joined more → (conditions : List Condition) → SayAll (clause f o a ∷ more) conditions → SaidMore f o a rest conditions
    said more some is [] s = absurd s
    said more some is (condition ∷ others) s =
        record { condition = condition; others = others; is = refl; says = s.0; clauses = more; some = some; rest_is = is; say = s.1 }

-- a condition that is said by the first clause, whatever stands behind it
pub front_said : (words : List (List ℕ)) (f o a : List ℕ) (rest : List (List ℕ)) → words ≡ f ∷ o ∷ a ∷ rest
    → (clauses : List Clause) → words ≡ joined clauses → (conditions : List Condition) → SayAll clauses conditions
    → (condition : Condition) × Says (clause f o a) condition
front_said words f o a [] e clauses d conditions say =
    let s = last_said words f o a [] e refl clauses d conditions say in (s.0, s.2)
front_said words f o a (j ∷ rest) e clauses d conditions say =
    let s = more_said words f o a j rest e clauses d conditions say in (s.condition, s.says)
