-- Words say one ban, or are refused for one cause.
use Rattle.std.proofs.Common.{◌≡◌, ◌≢◌, ◌<◌, ◌≤◌, ◌⊎◌, ℕ, pos, true, List, [], ◌∷◌, Option, Some, None, refl, sym, ap, subst, ◌∙◌, inl, inr, arith}
use Rattle.std.specs.Prelude.{IsSomeAnd, MatchOption, IsSome}
use Rattle.std.proofs.lemmas.Bool.{false≢true}
use Rattle.units.proofs.Splits.{duration_same}
use Rattle.units.specs.Durations.{IsDuration}
use Rattle.vcl_values.specs.Readings.{reading, options}
use Rattle.vcl_values.proofs.ReadingLemmas.{IsAccepted-reading}
use Rattle.cache_law.specs.declared.ban.Condition.{Condition}
use Rattle.cache_law.specs.declared.ban.Condition.TheVariants.{OnText, OnTime}
use Rattle.cache_law.specs.declared.ban.TextOperator.{TextOperator}
use Rattle.ban_expr.specs.declared.error.BanError.{BanError}
use Rattle.ban_expr.specs.declared.error.BanError.TheVariants.{Field, Operator, Argument, Pattern, Shape, NoMemory}
use Rattle.ban_expr.specs.declared.subjects.Subject.{Subject}
use Rattle.ban_expr.specs.declared.subjects.Subject.TheVariants.{OfText, OfTime}
use Rattle.ban_expr.specs.Fields.{subject_of, text_field}
use Rattle.ban_expr.specs.Operators.{text_operator, comparison_of, is_search, IsPattern, IsNoPattern}
use Rattle.ban_expr.specs.Reading.{Clause, IsMadeOf, Says, SayAll, IsWrong, IsWrongOf, IsWrongText, IsWrongTime, IsFirstWrong, Reads, IsRefusedBy, IsRefusal}
use Rattle.ban_expr.proofs.Joined.{joined_same}

-- a clause says one condition
pub one_condition : (c : Clause) (a b : Condition) → Says c a → Says c b → a ≡ b
one_condition c (OnText f o x) (OnText g p y) s t =
    let named : subject_of c.field ≡ Some (OfText s.0.0) = s.0.1 in
    let other : subject_of c.field ≡ Some (OfText t.0.0) = t.0.1 in
    let same : s.0.0 ≡ t.0.0 = cc in
    let field : f ≡ g = s.0.2 ∙ ap (λ u. text_field u c.field) same ∙ sym t.0.2 in
    let operator : o ≡ p = cc in
    let argument : x ≡ y = s.2 ∙ sym t.2 in
    cc
one_condition c (OnText f o x) (OnTime g k z) s t = let named : subject_of c.field ≡ Some (OfText s.0.0) = s.0.1 in cc
one_condition c (OnTime g k z) (OnText f o x) s t = let named : subject_of c.field ≡ Some (OfText t.0.0) = t.0.1 in cc
one_condition c (OnTime f k z) (OnTime g l y) s t =
    let same : s.2.0 ≡ t.2.0 = duration_same c.argument s.2.0 t.2.0 s.2.2 t.2.2 in
    let number : z ≡ y = s.2.1 ∙ ap pos same ∙ sym t.2.1 in
    let field : f ≡ g = cc in
    let compared : k ≡ l = cc in
    cc

pub one_list : (clauses : List Clause) (a b : List Condition) → SayAll clauses a → SayAll clauses b → a ≡ b
one_list [] [] [] s t = refl
one_list [] [] (y ∷ ys) s t = absurd t
one_list [] (x ∷ xs) b s t = absurd s
one_list (c ∷ clauses) [] b s t = absurd s
one_list (c ∷ clauses) (x ∷ xs) [] s t = absurd t
one_list (c ∷ clauses) (x ∷ xs) (y ∷ ys) s t =
    let first = one_condition c x y s.0 t.0 in
    let rest = one_list clauses xs ys s.1 t.1 in
    cc

-- no pattern is none
fits_or_deep : {A : Type 0} (found : Option A) (depth : A → ℕ) (limit : ℕ) → IsSomeAnd found (λ r. depth r ≤ limit) → IsSomeAnd found (λ r. limit < depth r) → ⊥
fits_or_deep None depth limit fits deep = fits
fits_or_deep (Some r) depth limit fits deep = omega arith

pattern_or_none : (text : List ℕ) → IsPattern text → IsNoPattern text → ⊥
pattern_or_none text p (inl long) = omega (arith, p.0)
pattern_or_none text p (inr (inl none)) = IsAccepted-reading text p.1 none
pattern_or_none text p (inr (inr deep)) = fits_or_deep (reading text) (λ r. r.0.depth) options.nest_limit p.1 deep

searched : (o : Option TextOperator) (operator : TextOperator) → o ≡ Some operator → IsSomeAnd o (λ x. is_search x ≡ true) → is_search operator ≡ true
searched None operator e s = absurd s
searched (Some x) operator e s = let same : x ≡ operator = cc in ap is_search (sym same) ∙ s

-- a clause that says a condition is wrong for want of memory alone
wrong_text : (c : Clause) (error : BanError) (condition : Condition) → IsWrongText c error → (operator : TextOperator) → text_operator c.operator ≡ Some operator
    → (is_search operator ≡ true → IsPattern c.argument) → error ≡ NoMemory
wrong_text c Operator condition w operator e p = absurd (let x : None ≡ Some operator = sym w ∙ e in cc)
wrong_text c Pattern condition w operator e p = absurd (pattern_or_none c.argument (p (searched (text_operator c.operator) operator e w.0)) w.1)
wrong_text c NoMemory condition w operator e p = refl
wrong_text c Field condition w operator e p = absurd w
wrong_text c Argument condition w operator e p = absurd w
wrong_text c Shape condition w operator e p = absurd w

wrong_time : (c : Clause) (error : BanError) → IsWrongTime c error → (n : ℕ) → IsSome (comparison_of c.operator) → IsDuration c.argument n → error ≡ NoMemory
wrong_time c Operator w n some d = absurd (false≢true (rw (w) at some))
wrong_time c Argument w n some d = absurd (w.1 n d)
wrong_time c Field w n some d = absurd w
wrong_time c Pattern w n some d = absurd w
wrong_time c Shape w n some d = absurd w
wrong_time c NoMemory w n some d = absurd w

wrong_at : (c : Clause) (error : BanError) (condition : Condition) (subject : Option Subject) → subject_of c.field ≡ subject
    → MatchOption subject (error ≡ Field) (λ s. IsWrongOf s c error) → Says c condition → error ≡ NoMemory
wrong_at c error (OnText f o x) None e w s =
    let named : subject_of c.field ≡ Some (OfText s.0.0) = s.0.1 in let no : None ≡ Some (OfText s.0.0) = sym e ∙ named in cc
wrong_at c error (OnText f o x) (Some (OfText u)) e w s = wrong_text c error (OnText f o x) w o s.1 s.3
wrong_at c error (OnText f o x) (Some (OfTime t)) e w s =
    let named : subject_of c.field ≡ Some (OfText s.0.0) = s.0.1 in let no : Some (OfTime t) ≡ Some (OfText s.0.0) = sym e ∙ named in cc
wrong_at c error (OnTime f k z) None e w s = let no : None ≡ Some (OfTime f) = sym e ∙ s.0 in cc
wrong_at c error (OnTime f k z) (Some (OfText u)) e w s = let no : Some (OfText u) ≡ Some (OfTime f) = sym e ∙ s.0 in cc
wrong_at c error (OnTime f k z) (Some (OfTime t)) e w s = wrong_time c error w s.2.0 (rw (s.1) refl) s.2.2

wrong_says : (c : Clause) (error : BanError) (condition : Condition) → IsWrong c error → Says c condition → error ≡ NoMemory
wrong_says c error condition w s = wrong_at c error condition (subject_of c.field) refl w s

first_wrong_says : (clauses : List Clause) (error : BanError) (conditions : List Condition) → IsFirstWrong clauses error → SayAll clauses conditions → error ≡ NoMemory
first_wrong_says [] error conditions w s = absurd w
first_wrong_says (c ∷ clauses) error [] w s = absurd s
first_wrong_says (c ∷ clauses) error (x ∷ xs) (inl w) s = wrong_says c error x w s.0
first_wrong_says (c ∷ clauses) error (x ∷ xs) (inr w) s = first_wrong_says clauses error xs w.1 s.1

-- the words are one list of clauses
one_made : (words : List (List ℕ)) (a b : List Clause) → IsMadeOf words a → IsMadeOf words b → a ≡ b
one_made words a b m n = joined_same a b (sym m.spelled ∙ n.spelled)

pub one_reading : (words : List (List ℕ)) (a b : List Condition) → Reads words a → Reads words b → a ≡ b
one_reading words a b r s =
    let same = one_made words s.clauses r.clauses s.made r.made in
    let each = subst (λ (clauses : List Clause). SayAll clauses b) same s.each in
    one_list r.clauses a b r.each each

refused_reads : (words : List (List ℕ)) (error : BanError) (conditions : List Condition) → IsRefusedBy words error → Reads words conditions → error ≡ NoMemory
refused_reads words error conditions f r =
    let same = one_made words r.clauses f.clauses r.made f.made in
    first_wrong_says f.clauses error conditions f.first (subst (λ (clauses : List Clause). SayAll clauses conditions) same r.each)

pub refusal_reads : (words : List (List ℕ)) (error : BanError) (conditions : List Condition) → IsRefusal words error → Reads words conditions → error ≡ NoMemory
refusal_reads words Shape conditions f r = absurd (f r.clauses r.made)
refusal_reads words NoMemory conditions f r = refl
refusal_reads words Field conditions f r = refused_reads words Field conditions f r
refusal_reads words Operator conditions f r = refused_reads words Operator conditions f r
refusal_reads words Argument conditions f r = refused_reads words Argument conditions f r
refusal_reads words Pattern conditions f r = refused_reads words Pattern conditions f r

-- what is wrong with a text is its operator or its pattern
text_kind : (c : Clause) (error : BanError) → IsWrongText c error → error ≢ NoMemory
    → ((error ≡ Operator) × (text_operator c.operator ≡ None)) ⊎ ((error ≡ Pattern) × IsSomeAnd (text_operator c.operator) (λ x. is_search x ≡ true))
text_kind c Operator w n = inl (refl, w)
text_kind c Pattern w n = inr (refl, w.0)
text_kind c NoMemory w n = absurd (n refl)
text_kind c Field w n = absurd w
text_kind c Argument w n = absurd w
text_kind c Shape w n = absurd w

one_text : (c : Clause) (error other : BanError)
    → ((error ≡ Operator) × (text_operator c.operator ≡ None)) ⊎ ((error ≡ Pattern) × IsSomeAnd (text_operator c.operator) (λ x. is_search x ≡ true))
    → ((other ≡ Operator) × (text_operator c.operator ≡ None)) ⊎ ((other ≡ Pattern) × IsSomeAnd (text_operator c.operator) (λ x. is_search x ≡ true))
    → error ≡ other
one_text c error other (inl a) (inl b) = a.0 ∙ sym b.0
one_text c error other (inl a) (inr b) = absurd (rw (a.1) at b.1)
one_text c error other (inr a) (inl b) = absurd (rw (b.1) at a.1)
one_text c error other (inr a) (inr b) = a.0 ∙ sym b.0

-- and with a time its operator or its argument
time_kind : (c : Clause) (error : BanError) → IsWrongTime c error
    → ((error ≡ Operator) × (comparison_of c.operator ≡ None)) ⊎ ((error ≡ Argument) × IsSome (comparison_of c.operator))
time_kind c Operator w = inl (refl, w)
time_kind c Argument w = inr (refl, w.0)
time_kind c NoMemory w = absurd w
time_kind c Field w = absurd w
time_kind c Pattern w = absurd w
time_kind c Shape w = absurd w

one_time : (c : Clause) (error other : BanError)
    → ((error ≡ Operator) × (comparison_of c.operator ≡ None)) ⊎ ((error ≡ Argument) × IsSome (comparison_of c.operator))
    → ((other ≡ Operator) × (comparison_of c.operator ≡ None)) ⊎ ((other ≡ Argument) × IsSome (comparison_of c.operator))
    → error ≡ other
one_time c error other (inl a) (inl b) = a.0 ∙ sym b.0
one_time c error other (inl a) (inr b) = absurd (false≢true (rw (a.1) at b.1))
one_time c error other (inr a) (inl b) = absurd (false≢true (rw (b.1) at a.1))
one_time c error other (inr a) (inr b) = a.0 ∙ sym b.0

one_wrong_at : (c : Clause) (error other : BanError) (subject : Option Subject) → MatchOption subject (error ≡ Field) (λ s. IsWrongOf s c error)
    → MatchOption subject (other ≡ Field) (λ s. IsWrongOf s c other) → error ≢ NoMemory → other ≢ NoMemory → error ≡ other
one_wrong_at c error other None w v n m = w ∙ sym v
one_wrong_at c error other (Some (OfText u)) w v n m = one_text c error other (text_kind c error w n) (text_kind c other v m)
one_wrong_at c error other (Some (OfTime t)) w v n m = one_time c error other (time_kind c error w) (time_kind c other v)

one_wrong : (clauses : List Clause) (error other : BanError) → IsFirstWrong clauses error → IsFirstWrong clauses other → error ≢ NoMemory → other ≢ NoMemory → error ≡ other
one_wrong [] error other w v n m = absurd w
one_wrong (c ∷ clauses) error other (inl w) (inl v) n m = one_wrong_at c error other (subject_of c.field) w v n m
one_wrong (c ∷ clauses) error other (inl w) (inr v) n m = absurd (n (wrong_says c error v.0.0 w v.0.1))
one_wrong (c ∷ clauses) error other (inr w) (inl v) n m = absurd (m (wrong_says c other w.0.0 v w.0.1))
one_wrong (c ∷ clauses) error other (inr w) (inr v) n m = one_wrong clauses error other w.1 v.1 n m

one_refused : (words : List (List ℕ)) (error other : BanError) → IsRefusedBy words error → IsRefusedBy words other → error ≢ NoMemory → other ≢ NoMemory → error ≡ other
one_refused words error other f g n m =
    let same = one_made words g.clauses f.clauses g.made f.made in
    one_wrong f.clauses error other f.first (subst (λ (clauses : List Clause). IsFirstWrong clauses other) same g.first) n m

-- the refusals but for want of memory: of the shape, or of the first wrong clause
refusal_kind : (words : List (List ℕ)) (error : BanError) → IsRefusal words error → error ≢ NoMemory
    → ((error ≡ Shape) × ((clauses : List Clause) → IsMadeOf words clauses → ⊥)) ⊎ IsRefusedBy words error
refusal_kind words Shape f n = inl (refl, f)
refusal_kind words NoMemory f n = absurd (n refl)
refusal_kind words Field f n = inr f
refusal_kind words Operator f n = inr f
refusal_kind words Argument f n = inr f
refusal_kind words Pattern f n = inr f

one_kind : (words : List (List ℕ)) (error other : BanError) → error ≢ NoMemory → other ≢ NoMemory
    → ((error ≡ Shape) × ((clauses : List Clause) → IsMadeOf words clauses → ⊥)) ⊎ IsRefusedBy words error
    → ((other ≡ Shape) × ((clauses : List Clause) → IsMadeOf words clauses → ⊥)) ⊎ IsRefusedBy words other
    → error ≡ other
one_kind words error other n m (inl a) (inl b) = a.0 ∙ sym b.0
one_kind words error other n m (inl a) (inr b) = absurd (a.1 b.clauses b.made)
one_kind words error other n m (inr a) (inl b) = absurd (b.1 a.clauses a.made)
one_kind words error other n m (inr a) (inr b) = one_refused words error other a b n m

pub one_refusal : (words : List (List ℕ)) (error other : BanError) → IsRefusal words error → IsRefusal words other → error ≢ NoMemory → other ≢ NoMemory → error ≡ other
one_refusal words error other f g n m = one_kind words error other n m (refusal_kind words error f n) (refusal_kind words other g m)

no_shape_at : (c : Clause) (subject : Option Subject) → MatchOption subject (Shape ≡ Field) (λ s. IsWrongOf s c Shape) → ⊥
no_shape_at c None w = cc
no_shape_at c (Some (OfText u)) w = w
no_shape_at c (Some (OfTime t)) w = w

no_shape : (clauses : List Clause) → IsFirstWrong clauses Shape → ⊥
no_shape [] w = w
no_shape (c ∷ clauses) (inl w) = no_shape_at c (subject_of c.field) w
no_shape (c ∷ clauses) (inr w) = no_shape clauses w.1

-- what is wrong with the first wrong clause of words refuses them
pub refusal : (words : List (List ℕ)) (error : BanError) (clauses : List Clause) → IsMadeOf words clauses → IsFirstWrong clauses error → IsRefusal words error
refusal words Shape clauses m w = absurd (no_shape clauses w)
refusal words NoMemory clauses m w = inl (record { clauses = clauses; made = m; first = w })
refusal words Field clauses m w = record { clauses = clauses; made = m; first = w }
refusal words Operator clauses m w = record { clauses = clauses; made = m; first = w }
refusal words Argument clauses m w = record { clauses = clauses; made = m; first = w }
refusal words Pattern clauses m w = record { clauses = clauses; made = m; first = w }
