-- Words as clauses.
use Rattle.std.proofs.Common.{◌≡◌, ◌<◌, ◌+◌, ◌*◌, ◌∙◌, ℕ, List, [], ◌∷◌, length, refl, sym, ap, arith}
use Rattle.std.specs.Prelude.{codes}
use Rattle.ban_expr.specs.Reading.{Clause, clause, joined, AreClauses}

same_clause : (f o a : List ℕ) (c : Clause) → c.field ≡ f → c.operator ≡ o → c.argument ≡ a → c ≡ clause f o a
same_clause f o a c e d b = let x : clause c.field c.operator c.argument ≡ clause f o a = rw (e, d, b) refl in x

-- three words are one clause
one_clause : (f o a : List ℕ) (clauses : List Clause) → f ∷ o ∷ a ∷ [] ≡ joined clauses → clauses ≡ clause f o a ∷ []
one_clause f o a [] e = cc
one_clause f o a (c ∷ []) e = ap (λ x. x ∷ []) (same_clause f o a c (cc) (cc) (cc))
one_clause f o a (c ∷ next ∷ more) e = cc

-- words of which nothing stands behind the first three are one clause
pub last_clause : (words : List (List ℕ)) (f o a : List ℕ) (behind : List (List ℕ)) (clauses : List Clause)
    → words ≡ f ∷ o ∷ a ∷ behind → length behind ≡ 0 → words ≡ joined clauses → clauses ≡ clause f o a ∷ []
last_clause words f o a [] clauses e none d = one_clause f o a clauses (sym e ∙ d)
last_clause words f o a (x ∷ xs) clauses e none d = absurd (omega arith)

pub last_joined : (words : List (List ℕ)) (f o a : List ℕ) (behind : List (List ℕ)) → words ≡ f ∷ o ∷ a ∷ behind → length behind ≡ 0 → AreClauses words
last_joined words f o a [] e none = (clause f o a ∷ [], omega arith, e)
last_joined words f o a (x ∷ xs) e none = absurd (omega arith)

-- the words behind the first clause and its `&&` are the other clauses
pub record Behind (f o a j : List ℕ) (rest : List (List ℕ)) (clauses : List Clause) : Type 0 where
  pub more : List Clause
  pub is : clauses ≡ clause f o a ∷ more
  pub some : 0 < length more
  pub rest_is : rest ≡ joined more
  pub joint : j ≡ codes "&&"

behind_first : (f o a j : List ℕ) (rest : List (List ℕ)) (clauses : List Clause) → f ∷ o ∷ a ∷ j ∷ rest ≡ joined clauses → Behind f o a j rest clauses
behind_first f o a j rest [] e = absurd (cc)
behind_first f o a j rest (c ∷ []) e = absurd (cc)
behind_first f o a j rest (c ∷ next ∷ more) e =
    record {
      more = next ∷ more;
      is = ap (λ x. x ∷ next ∷ more) (same_clause f o a c (cc) (cc) (cc));
      some = omega arith;
      rest_is = cc;
      joint = cc;
    }

pub behind : (words : List (List ℕ)) (f o a j : List ℕ) (rest : List (List ℕ)) (clauses : List Clause)
    → words ≡ f ∷ o ∷ a ∷ j ∷ rest → words ≡ joined clauses → Behind f o a j rest clauses
behind words f o a j rest clauses e d = behind_first f o a j rest clauses (sym e ∙ d)

pub more_joined : (words : List (List ℕ)) (f o a j : List ℕ) (rest : List (List ℕ)) → words ≡ f ∷ o ∷ a ∷ j ∷ rest → j ≡ codes "&&" → AreClauses rest → AreClauses words
more_joined words f o a j rest e joint ([], some, d) = absurd (omega arith)
more_joined words f o a j rest e joint (c ∷ clauses, some, d) = (clause f o a ∷ c ∷ clauses, omega arith, e ∙ rw (joint, d) refl)

pub less_joined : (words : List (List ℕ)) (f o a j : List ℕ) (rest : List (List ℕ)) → words ≡ f ∷ o ∷ a ∷ j ∷ rest → AreClauses words → (j ≡ codes "&&") × AreClauses rest
less_joined words f o a j rest e (clauses, some, d) = let b = behind words f o a j rest clauses e d in (b.joint, (b.more, b.some, b.rest_is))

-- fewer than three words are no clauses
pub too_short : (words : List (List ℕ)) (clauses : List Clause) → length words < 3 → 0 < length clauses → words ≡ joined clauses → ⊥
too_short words [] short some e = omega arith
too_short words (c ∷ []) short some e = let l : length words ≡ 3 = ap length e in omega arith
too_short words (c ∷ next ∷ more) short some e = let l : length words ≡ length (joined (next ∷ more)) + 4 = ap length e ∙ omega arith in omega arith

-- the number of words
pub length-joined : (clauses : List Clause) → 0 < length clauses → length (joined clauses) + 1 ≡ 4 * length clauses
length-joined [] some = absurd (omega arith)
length-joined (c ∷ []) some = refl
length-joined (c ∷ next ∷ more) some = let e = length-joined (next ∷ more) (omega arith) in omega arith

-- words are one list of clauses
pub joined_same : (some others : List Clause) → joined some ≡ joined others → some ≡ others
joined_same [] [] e = refl
joined_same [] (d ∷ []) e = cc
joined_same [] (d ∷ n ∷ m) e = cc
joined_same (c ∷ []) [] e = cc
joined_same (c ∷ []) (d ∷ []) e = ap (λ x. x ∷ []) (same_clause d.field d.operator d.argument c (cc) (cc) (cc))
joined_same (c ∷ []) (d ∷ n ∷ m) e = cc
joined_same (c ∷ n ∷ m) [] e = cc
joined_same (c ∷ n ∷ m) (d ∷ []) e = cc
joined_same (c ∷ n ∷ m) (d ∷ k ∷ l) e =
    let first = same_clause d.field d.operator d.argument c (cc) (cc) (cc) in
    let rest = joined_same (n ∷ m) (k ∷ l) (cc) in
    cc
