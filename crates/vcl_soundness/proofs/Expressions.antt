-- By the grammar, an expression without a fault comes to a value of its type, and isn't stuck.
use Rattle.std.proofs.Common.{◌≡◌, ℕ, zero, suc, Bool, true, not, ◌||◌, List, [], ◌∷◌, ◌++◌, refl, sym, ap, ◌∙◌, subst, Option, Some, None, slice_get, ◌<◌, ◌≤◌, length, slice_index_or, arith}
use Rattle.std.specs.List.{list_all}
use Rattle.std.specs.Prelude.{Contains}
use Rattle.std.proofs.lemmas.Option.{none-some, same_Some, slice_get-get_or}
use Rattle.directors.specs.declared.director.DirectorKind.{DirectorKind}
use Rattle.directors.specs.declared.director.DirectorKind.TheVariants as director
use Rattle.vcl_values.specs.declared.value.Kind.{Kind}
use Rattle.vcl_values.specs.declared.value.Kind.TheVariants as kind
use Rattle.vcl_tree.specs.Phrase.{Phrase, Label, Node, Nothing, At, Named, String, Weight, Integer, Duration, More, Either, Both, Not, Group, Compared, Added, Subtracted, Called}
use Rattle.vcl_tree.specs.declared.expression.Comparison.{Comparison as Asked}
use Rattle.vcl_tree.specs.declared.expression.Comparison.TheVariants as asked
use Rattle.vcl_tree.specs.declared.token.Token.{Token}
use Rattle.vcl_tree.specs.ExpressionGrammar as grammar
use Rattle.vcl_tree.specs.ExpressionGrammar.{IsExpression, IsConjunction, IsNegation, IsComparison, IsSum, IsTerm, IsArguments, IsArgumentList}
use Rattle.vcl_tree.specs.Tokens.{IsName, plain_name, word_name}
use Rattle.vcl_language.specs.Functions.{method_of, nothing, one}
use Rattle.vcl_language.specs.declared.functions.Function.{Function}
use Rattle.vcl_language.specs.declared.functions.Method.TheVariants as method
use Rattle.vcl_language.specs.declared.functions.Parameter.TheVariants as parameter
use Rattle.vcl_language.specs.declared.functions.Slot.{Slot}
use Rattle.vcl_language.specs.declared.scope.Subroutine.{Subroutine}
use Rattle.vmod_host.specs.declared.signature.JarUse.{JarUse}
use Rattle.vmod_host.specs.declared.signature.JarUse.TheVariants as jar
use Rattle.vmod_host.specs.declared.signature.Stored.{Stored}
use Rattle.vcl_check.specs.declared.form.Use.TheVariants as use'
use Rattle.vcl_check.specs.declared.seen.Argument.{Argument}
use Rattle.vcl_check.specs.declared.seen.Meaning.{Meaning}
use Rattle.vcl_check.specs.declared.seen.Meaning.TheVariants as meaning
use Rattle.vcl_check.specs.declared.seen.Sort.{Sort}
use Rattle.vcl_check.specs.declared.seen.Sort.TheVariants as sort
use Rattle.vcl_check.specs.Calls.{is_string, with_argument, takes_so_many, mistyped, unwritten, or_else, leftmost_mistyped, leftmost_unwritten, ill_called}
use Rattle.vcl_check.specs.Kinds.{is_value, is_condition, is_ordered, same_kind, alike, adds, may_add, sum_kind, sum_sort, difference_kind, difference_sort, accepts, grouped_sort, is_ip, is_acl, is_searched}
use Rattle.vcl_check.specs.Known.{meaning_of, values, takes_values, takes_behind_jar, written_of, value_given, giving, function_of}
use Rattle.vcl_check.specs.Roles.{Name, Value, Arguments}
use Rattle.vcl_check.specs.Rules.{may_use, is_reached, is_for_init, may_be_used, both_fit, ill_function, unwritten_call}
use Rattle.vcl_check.specs.Views.{sort_of, given_sort, call_sort, integer_weight, argument_of, view_of}
use Rattle.vcl_code.specs.declared.callees.Builtin.{Builtin}
use Rattle.vcl_code.specs.declared.callees.Builtin.TheVariants as builtin
use Rattle.vcl_code.specs.declared.names.Callee.{Callee}
use Rattle.vcl_code.specs.declared.names.Callee.TheVariants as callee
use Rattle.vcl_symbols.specs.Known.{Known}
use Rattle.vcl_code.specs.Names.{callee_of}
use Rattle.vcl_code.specs.Expressions.{string_of, second_string}
use Rattle.vcl_program.specs.declared.code.Director.{Director}
use Rattle.vcl_operands.specs.Meaning.{Scene, Operand, value_of, operands_of, jar_text, with_jar}
use Rattle.vcl_soundness.proofs.Rows.{false-true, both-true, takes_of, gives_of, passes}
use Rattle.vcl_soundness.proofs.Clean.{Clean, left-clean, right-clean, fits, written, known-name, used-name}
use Rattle.vcl_soundness.proofs.Places.{not-none, placed, one-placed, AreFour, four-placed, values-are, behind-are}
use Rattle.vcl_soundness.proofs.NoFault.{unless-none, if-none, both-fits, or-none, weight-no-string}
use Rattle.vcl_soundness.proofs.Names as names
use Rattle.vcl_soundness.proofs.Names.{Stands, AclNamed, ReadsAs, name-reads, Does, function-does}
use Rattle.vcl_soundness.proofs.Typed as typed
use Rattle.vcl_soundness.proofs.Typed.{Given, AllGiven, Typed, CallWorth, Sought, stored-worth, xkey-worth, substitute-worth, director-worth, hash-worth, string-typed, integer-typed, duration-typed, named-typed, group-typed, either-typed, both-typed, not-typed, equal-typed, unequal-typed, less-typed, less-or-equal-typed, greater-typed, greater-or-equal-typed, sum-typed, difference-typed, match-typed, mismatch-typed, called-typed}

-- the text of a string
string-text : (known : Known) (e : Phrase) → is_string (view_of known Value e).literal ≡ true → (place : ℕ) × (text : List ℕ) × (e ≡ String place text)
string-text known (String place text) h = (place, text, refl)
string-text known (Integer place n) h = absurd (integer-no-string n h)
  where
    integer-no-string : (n : _) → is_string (integer_weight n) ≡ true → ⊥
    integer-no-string n h = weight-no-string _ h
string-text known (Weight place digits) h = absurd (weight-no-string _ h)
string-text known Nothing h = absurd (false-true h)
string-text known (At place) h = absurd (false-true h)
string-text known (Named place name) h = absurd (false-true h)
string-text known (Duration place n) h = absurd (false-true h)
string-text known (Node label a b) h = absurd (no-string label h)
  where
    no-string : (label : Label) → is_string (view_of known Value (Node label a b)).literal ≡ true → ⊥
    no-string Either h = false-true h
    no-string Both h = false-true h
    no-string (Compared how) h = false-true h
    no-string Added h = false-true h
    no-string Subtracted h = false-true h
    no-string Not h = false-true h
    no-string Group h = false-true h
    no-string Called h = false-true h
    no-string _ h = false-true h

-- what is no ACL's name
given-no-acl : (s : Option Kind) → is_acl (given_sort s) ≡ true → ⊥
given-no-acl None h = false-true h
given-no-acl (Some k) h = false-true h

call-no-acl : (m : Meaning) → is_acl (call_sort m) ≡ true → ⊥
call-no-acl (meaning.Function f) h = given-no-acl f.gives h
call-no-acl _ h = false-true h

-- functions that are no expressions
abbrev pub Performs : Callee → Type 0
Performs (callee.Builtin builtin.HashData) = Unit {0}
Performs (callee.Builtin builtin.Synthetic) = Unit {0}
Performs (callee.Builtin builtin.Ban) = Unit {0}
Performs _ = ⊥

abbrev pub Gives : Callee → Type 0
Gives (callee.Builtin builtin.HashData) = ⊥
Gives (callee.Builtin builtin.Synthetic) = ⊥
Gives (callee.Builtin builtin.Ban) = ⊥
Gives (callee.Stored k jar.Changes) = ⊥
Gives _ = Unit {0}

-- what holds of all subroutines from which a part is reached, and of one of them
pub all-contained : (p : Subroutine → Bool) (xs : List Subroutine) (s : Subroutine) → list_all p xs ≡ true → (k : ℕ) → k < length xs → slice_index_or xs k s ≡ s → p s ≡ true
all-contained p xs s all k low e = passes p xs k s all (slice_get-get_or xs k s low ∙ ap (λ (x : Subroutine). Some x) e)

module _ (known : Known) (scene : Scene) (stands : Stands known scene) (roots : List Subroutine) (root : Subroutine)
    (reached : Contains roots root) where
  -- a value is one of its type; what is no value may be none
  abbrev Good : Sort → Phrase → Type 0
  Good (sort.Value (Some k)) e = Typed scene known k e
  Good (sort.Value None) e = ⊥
  Good _ e = Unit {0}

  abbrev SortOf : Phrase → Sort
  SortOf e = (view_of known Value e).sort

  abbrev pub Fine : Phrase → Type 0
  Fine e = Clean known roots Value e → Good (SortOf e) e

  pub data AreFine : Phrase → Type 0 where
    none : AreFine Nothing
    more : {l e : Phrase} → AreFine l → Fine e → AreFine (Node More l e)

  -- a value, by its type
  abbrev pub Valued : Sort → Phrase → Type 0
  Valued s e = (k : Kind) × (s ≡ sort.Value (Some k)) × Typed scene known k e

  pub valued : (s : Sort) (e : Phrase) → is_value s ≡ true → Good s e → Valued s e
  valued (sort.Value (Some k)) e h g = (k, refl, g)
  valued (sort.Value None) e h g = absurd g
  valued _ e h g = absurd (false-true h)

  condition-value : (s : Sort) → is_condition s ≡ true → is_value s ≡ true
  condition-value (sort.Value k) h = refl
  condition-value _ h = absurd (false-true h)

  ordered-value : (s : Sort) → is_ordered s ≡ true → is_value s ≡ true
  ordered-value (sort.Value k) h = refl
  ordered-value _ h = absurd (false-true h)

  alike-value : (k : Kind) (t : Sort) → alike (sort.Value (Some k)) t ≡ true → is_value t ≡ true
  alike-value k (sort.Value l) h = refl
  alike-value k _ h = absurd (false-true h)

  add-value : (k : Kind) (t : Sort) → may_add (sort.Value (Some k)) t ≡ true → is_value t ≡ true
  add-value k (sort.Value l) h = refl
  add-value k _ h = absurd (false-true h)

  accepts-value : (k : Kind) (t : Sort) → accepts k t ≡ true → is_value t ≡ true
  accepts-value kind.String t h = h
  accepts-value kind.Int t h = alike-value kind.Int t h
  accepts-value kind.Duration t h = alike-value kind.Duration t h
  accepts-value kind.Bool t h = alike-value kind.Bool t h
  accepts-value kind.Ip t h = alike-value kind.Ip t h
  accepts-value kind.Backend t h = alike-value kind.Backend t h

  -- a value in a condition
  abbrev pub Conditional : Sort → Phrase → Type 0
  Conditional s e = (k : Kind) × (is_condition (sort.Value (Some k)) ≡ true) × Typed scene known k e

  pub conditional : (s : Sort) (e : Phrase) → is_condition s ≡ true → Good s e → Conditional s e
  conditional s e h g =
      let v = valued s e (condition-value s h) g in
      (v.0, subst (λ (x : Sort). is_condition x ≡ true) v.1 h, v.2)

  -- a value that is taken where one of a type is wanted
  pub accepted : (wanted : Kind) (s : Sort) (e : Phrase) → accepts wanted s ≡ true → Good s e → (k : Kind) × (accepts wanted (sort.Value (Some k)) ≡ true) × Typed scene known k e
  accepted wanted s e h g =
      let v = valued s e (accepts-value wanted s h) g in
      (v.0, subst (λ (x : Sort). accepts wanted x ≡ true) v.1 h, v.2)

  -- arguments
  abbrev pub Listed : Phrase → List (Option Argument)
  Listed l = (view_of known Arguments l).arguments

  abbrev Taken : List Kind → Phrase → Type 0
  Taken ks l = AllGiven ks (operands_of known scene l)

  abbrev Seen : Phrase → Argument
  Seen e = argument_of (view_of known Value e)

  argument-given : (wanted : Kind) (e : Phrase) → mistyped (Some (parameter.Value wanted)) (Seen e) ≡ None → Good (SortOf e) e
      → (k : Kind) × (accepts wanted (sort.Value (Some k)) ≡ true) × Typed scene known k e
  argument-given wanted e m g = accepted wanted (SortOf e) e (unless-none (accepts wanted (SortOf e)) (view_of known Value e).first m) g

  -- an argument is given as an operand
  abbrev IsGiven : Argument → Operand → Type 0
  IsGiven a x = (wanted : Kind) → mistyped (Some (parameter.Value wanted)) a ≡ None → Given wanted x

  abbrev AreGiven : List Argument → List Operand → Type 0
  AreGiven [] [] = Unit {0}
  AreGiven (a ∷ as') (x ∷ xs) = IsGiven a x × AreGiven as' xs
  AreGiven _ _ = ⊥

  one-more : (as' : List Argument) (xs : List Operand) (a : Argument) (x : Operand) → AreGiven as' xs → IsGiven a x → AreGiven (as' ++ a ∷ []) (xs ++ x ∷ [])
  one-more [] [] a x h g = (g, tt)
  one-more (b ∷ as') (y ∷ ys) a x h g = (h.0, one-more as' ys a x h.1 g)
  one-more [] (y ∷ ys) a x h g = absurd h
  one-more (b ∷ as') [] a x h g = absurd h

  record AreListed (l : Phrase) : Type 0 where
    pub arguments : List Argument
    pub listed : Listed l ≡ placed 4 arguments
    pub given : AreGiven arguments (operands_of known scene l)

  are-listed : {l : Phrase} → AreFine l → Clean known roots Arguments l → AreListed l
  unfolding operands_of
  are-listed none c = record { arguments = []; listed = refl; given = tt }
  are-listed (more {l = l} {e = e} f g) c =
      let front = are-listed f (left-clean known roots Arguments More l e c) in
      let good = g (right-clean known roots Arguments More l e c) in
      record {
        arguments = front.arguments ++ Seen e ∷ [];
        listed = ap (λ (xs : List (Option Argument)). with_argument xs (Seen e)) front.listed ∙ one-placed 4 front.arguments (Seen e);
        given = one-more front.arguments (operands_of known scene l) (Seen e) (value_of known scene e) front.given (λ wanted m. argument-given wanted e m good);
      }

  -- each is of its type, where none of the leftmost is told
  all-given : (n m : ℕ) (ks : List Kind) (as' : List Argument) (xs : List Operand) → takes_so_many (values n ks) (placed m as') ≡ true → leftmost_mistyped (values n ks) (placed m as') ≡ None
      → length ks ≤ n → n < m → AreGiven as' xs → AllGiven ks xs
  all-given n zero ks as' xs s i low high g = absurd (omega (arith, high))
  all-given zero (suc m) [] [] [] s i low high g = tt
  all-given zero (suc m) [] (a ∷ as') xs s i low high g = absurd (false-true s)
  all-given zero (suc m) (k ∷ ks) as' xs s i low high g = absurd (omega (arith, low))
  all-given (suc n) (suc m) [] [] [] s i low high g = tt
  all-given (suc n) (suc m) [] (a ∷ as') xs s i low high g = absurd (false-true s)
  all-given (suc n) (suc m) (k ∷ ks) [] xs s i low high g = absurd (false-true s)
  all-given (suc n) (suc m) (k ∷ ks) (a ∷ as') (x ∷ xs) s i low high g =
      let o = or-none (mistyped (Some (parameter.Value k)) a) (leftmost_mistyped (values n ks) (placed m as')) i in
      (g.0 k o.0, all-given n m ks as' xs s o.1 (omega (arith, low)) (omega (arith, high)) g.1)
  all-given n m ks [] (x ∷ xs) s i low high g = absurd g
  all-given n m ks (a ∷ as') [] s i low high g = absurd g

  given-values : (ks : List Kind) → length ks ≤ 3 → {l : Phrase} → AreFine l → Clean known roots Arguments l → (at : ℕ) → ill_called (values 3 ks) (Listed l) at ≡ None → Taken ks l
  given-values ks low {l} f c at i =
      let are = are-listed f c in
      let P : List (Option Argument) → Type 0 = λ given. ill_called (values 3 ks) given at ≡ None in
      let b = if-none (takes_so_many (values 3 ks) (placed 4 are.arguments)) (leftmost_mistyped (values 3 ks) (placed 4 are.arguments)) at (subst P are.listed i) in
      all-given 3 4 ks are.arguments (operands_of known scene l) b.0 b.1 low (omega arith) are.given

  zero-given : {l : Phrase} → AreFine l → Clean known roots Arguments l → (at : ℕ) → ill_called nothing (Listed l) at ≡ None → Taken [] l
  zero-given f c at i = given-values [] (omega arith) f c at i

  pub one-given : (a : Kind) {l : Phrase} → AreFine l → Clean known roots Arguments l → (at : ℕ) → ill_called (one (parameter.Value a)) (Listed l) at ≡ None → Taken (a ∷ []) l
  one-given a f c at i = given-values (a ∷ []) (omega arith) f c at i

  pub are-four : {l w x y z : Phrase} → AreFine l → Clean known roots Arguments (Node More (Node More (Node More (Node More l w) x) y) z)
      → AreFour (Listed (Node More (Node More (Node More (Node More l w) x) y) z))
  are-four {l} {w} {x} {y} {z} f c =
      let one' = Node More l w in
      let two = Node More one' x in
      let three = Node More two y in
      let front = left-clean known roots Arguments More one' x (left-clean known roots Arguments More two y (left-clean known roots Arguments More three z c)) in
      let are = are-listed f (left-clean known roots Arguments More l w front) in
      let four = four-placed are.arguments (Seen w) (Seen x) (Seen y) (Seen z) in
      let with_all : List (Option Argument) → List (Option Argument) = λ xs. with_argument (with_argument (with_argument (with_argument xs (Seen w)) (Seen x)) (Seen y)) (Seen z) in
      (four.0, four.1, four.2, four.3, ap with_all are.listed ∙ four.4)

  values-given : (kinds : List Kind) (t : List Slot) → takes_values kinds ≡ Some t → {l : Phrase} → AreFine l → Clean known roots Arguments l → (at : ℕ) → ill_called t (Listed l) at ≡ None
      → Taken kinds l
  values-given kinds t e {l} g c at i = let v = values-are kinds t e in given-values kinds v.0 g c at (subst (λ (y : List Slot). ill_called y (Listed l) at ≡ None) (sym v.1) i)

  abbrev Agrees : Kind → Callee → Phrase → Type 0
  Agrees k c l = CallWorth scene k c (second_string l) (operands_of known scene l)

  substituted : (all : Bool) {l : Phrase} → AreFine l → Clean known roots Arguments l → (at : ℕ)
      → ill_called (takes_of (builtin.Substitute all)) (Listed l) at ≡ None → leftmost_unwritten (takes_of (builtin.Substitute all)) (Listed l) ≡ None
      → Agrees kind.String (callee.Builtin (builtin.Substitute all)) l
  unfolding operands_of
  substituted all none c at i u = absurd (not-none at i)
  substituted all (more none f) c at i u = absurd (not-none at i)
  substituted all (more (more none f) g) c at i u = absurd (not-none at i)
  substituted all (more {e = z} (more {e = y} (more {e = x} none f) g) h) c at i u =
      let two = Node More (Node More Nothing x) y in
      let l = Node More two z in
      let front = left-clean known roots Arguments More two z c in
      let first = left-clean known roots Arguments More (Node More Nothing x) y front in
      let T : Option _ = Some (parameter.Value kind.String) in
      let P : Option _ = Some parameter.Pattern in
      let m = or-none (mistyped T (Seen x)) (or_else (mistyped P (Seen y)) (or_else (mistyped T (Seen z)) None)) i in
      let n = or-none (mistyped P (Seen y)) (or_else (mistyped T (Seen z)) None) m.1 in
      let t = or-none (mistyped T (Seen z)) None n.1 in
      let o = or-none (unwritten T (Seen x)) (or_else (unwritten P (Seen y)) (or_else (unwritten T (Seen z)) None)) u in
      let w = or-none (unwritten P (Seen y)) (or_else (unwritten T (Seen z)) None) o.1 in
      let text = string-text known y (unless-none (is_string (view_of known Value y).literal) (view_of known Value y).first w.0) in
      let left = argument-given kind.String x m.0 (f (right-clean known roots Arguments More Nothing x first)) in
      let right = argument-given kind.String z t.0 (h (right-clean known roots Arguments More two z c)) in
      let by : Phrase → Operand = λ p. value_of known scene p in
      let C : Option (List ℕ) → Type 0 = λ q. CallWorth scene kind.String (callee.Builtin (builtin.Substitute all)) q (operands_of known scene l) in
      subst C (sym (ap string_of text.2)) (substitute-worth scene all left.0 right.0 text.1 (by x) (by y) (by z) left.2 right.2)
  substituted all (more (more (more (more m d) f) g) h) c at i u =
      let P : List (Option Argument) → Type 0 = λ given. ill_called (takes_of (builtin.Substitute all)) given at ≡ None in
      absurd (not-none at (subst P (are-four m c).4 i))

  directed : (k : ℕ) (d : Director) → slice_get scene.directors k ≡ Some d → (way : DirectorKind) {l : Phrase} → AreFine l → Clean known roots Arguments l → (at : ℕ)
      → ill_called (method_of way method.Backend).takes (Listed l) at ≡ None → Agrees kind.Backend (callee.Director k) l
  directed k d e director.One {l} g c at i = director-worth scene k d e (second_string l) (operands_of known scene l) (zero-given g c at i)
  directed k d e director.RoundRobin {l} g c at i = director-worth scene k d e (second_string l) (operands_of known scene l) (zero-given g c at i)
  directed k d e director.Fallback {l} g c at i = director-worth scene k d e (second_string l) (operands_of known scene l) (zero-given g c at i)
  directed k d e director.Random {l} g c at i = director-worth scene k d e (second_string l) (operands_of known scene l) (zero-given g c at i)
  directed k d e director.Hash {l} g c at i = hash-worth scene k d e kind.String (second_string l) (operands_of known scene l) (one-given kind.String g c at i)

  -- What a call of a function does: something by the text of one value, or it gives a value, or it changes the jar.
  pub data Call (f : Function) (name : List ℕ) (l : Phrase) : Type 0 where
    does : (c : Callee) → callee_of known name ≡ c → Performs c → f.gives ≡ None → Taken (kind.String ∷ []) l → Call f name l
    yields : (k : Kind) (c : Callee) → callee_of known name ≡ c → Gives c → f.gives ≡ Some k → Agrees k c l → Call f name l
    changes : (k : Kind) (i : ℕ) → callee_of known name ≡ callee.Stored i jar.Changes → f.gives ≡ None → Agrees k (callee.Stored i jar.Changes) l → Call f name l
    enrols : (way : DirectorKind) → f ≡ method_of way method.AddBackend → Call f name l

  built : (b : Builtin) (f : Function) (name : List ℕ) {l : Phrase} → AreFine l → Clean known roots Arguments l → (at : ℕ) → callee_of known name ≡ callee.Builtin b → f.gives ≡ gives_of b
      → ill_called (takes_of b) (Listed l) at ≡ None → leftmost_unwritten (takes_of b) (Listed l) ≡ None → Call f name l
  built (builtin.Substitute all) f name g c at e v i u = yields kind.String (callee.Builtin (builtin.Substitute all)) e tt v (substituted all g c at i u)
  built (builtin.Xkey soft) f name {l} g c at e v i u =
      yields kind.Int (callee.Builtin (builtin.Xkey soft)) e tt v (xkey-worth scene soft kind.String (second_string l) (operands_of known scene l) (one-given kind.String g c at i))
  built builtin.HashData f name g c at e v i u = does (callee.Builtin builtin.HashData) e tt v (one-given kind.String g c at i)
  built builtin.Synthetic f name g c at e v i u = does (callee.Builtin builtin.Synthetic) e tt v (one-given kind.String g c at i)
  built builtin.Ban f name g c at e v i u = does (callee.Builtin builtin.Ban) e tt v (one-given kind.String g c at i)

  -- arguments behind the jar's text
  jar-given : Given kind.String (jar_text scene)
  jar-given = (kind.String, refl, λ s. refl)

  behind-given : (kinds : List Kind) (t : List Slot) → takes_behind_jar kinds ≡ Some t → {l : Phrase} → AreFine l → Clean known roots Arguments l → (at : ℕ) → ill_called t (Listed l) at ≡ None
      → AllGiven kinds (jar_text scene ∷ operands_of known scene l)
  behind-given kinds t e {l} g c at i =
      let v = behind-are kinds t e in
      let taken = given-values v.0 v.2 g c at (subst (λ (y : List Slot). ill_called y (Listed l) at ≡ None) (sym v.3) i) in
      subst (λ (ks : List Kind). AllGiven ks (jar_text scene ∷ operands_of known scene l)) (sym v.1) (jar-given, taken)

  passed-given : (u : JarUse) (kinds : List Kind) (t : List Slot) → written_of u kinds ≡ Some t → {l : Phrase} → AreFine l → Clean known roots Arguments l → (at : ℕ) → ill_called t (Listed l) at ≡ None
      → AllGiven kinds (with_jar scene u (operands_of known scene l))
  passed-given jar.None kinds t e g c at i = values-given kinds t e g c at i
  passed-given jar.Asks kinds t e g c at i = behind-given kinds t e g c at i
  passed-given jar.Changes kinds t e g c at i = behind-given kinds t e g c at i

  given-function : (of : Option Kind) (o : Option (List Slot)) (f : Function) → giving of o ≡ Some f → (t : List Slot) × (o ≡ Some t) × (f.takes ≡ t) × (f.gives ≡ of)
  given-function of None f e = absurd (none-some f e)
  given-function of (Some t) f e =
      let same = same_Some _ f e in
      (t, refl, ap (λ (x : Function). x.takes) (sym same), ap (λ (x : Function). x.gives) (sym same))

  stored-call : (k : ℕ) (entry : Stored) (f : Function) (name : List ℕ) {l : Phrase} → AreFine l → Clean known roots Arguments l → (at : ℕ) → callee_of known name ≡ callee.Stored k entry.signature.jar
      → slice_get known.stored k ≡ Some entry → function_of entry.signature ≡ Some f → ill_called f.takes (Listed l) at ≡ None → Call f name l
  stored-call k entry f name {l} g c at e there is i =
      let x = given-function (value_given entry.signature.jar entry.signature.gives) (written_of entry.signature.jar entry.signature.takes) f is in
      let m = stands.meant k entry there in
      let found = ap (λ (xs : List Stored). slice_get xs k) stands.stored ∙ there in
      let taken = passed-given entry.signature.jar entry.signature.takes x.0 x.1 g c at (subst (λ (t : List Slot). ill_called t (Listed l) at ≡ None) x.2 i) in
      by-jar entry.signature.jar e x.3 (stored-worth scene k entry found m.1 m.0 entry.signature.jar (second_string l) (operands_of known scene l) taken)
    where
      by-jar : (u : JarUse) → callee_of known name ≡ callee.Stored k u → f.gives ≡ value_given u entry.signature.gives → Agrees entry.signature.gives (callee.Stored k u) l → Call f name l
      by-jar jar.None e v w = yields entry.signature.gives (callee.Stored k jar.None) e tt v w
      by-jar jar.Asks e v w = yields entry.signature.gives (callee.Stored k jar.Asks) e tt v w
      by-jar jar.Changes e v w = changes entry.signature.gives k e v w

  pub calls : (f : Function) (name : List ℕ) {l : Phrase} → Does known scene stands name f → AreFine l → Clean known roots Arguments l → (at : ℕ)
      → ill_called f.takes (Listed l) at ≡ None → leftmost_unwritten f.takes (Listed l) ≡ None → Call f name l
  calls f name {l} (names.of_language b e row) g c at i u =
      built b f name g c at e row.gives (subst (λ (t : List Slot). ill_called t (Listed l) at ≡ None) row.takes i) (subst (λ (t : List Slot). leftmost_unwritten t (Listed l) ≡ None) row.takes u)
  calls f name {l} (names.of_table k entry e there is) g c at i u = stored-call k entry f name g c at e there is i
  calls f name {l} (names.of_director k d way e there same) g c at i u =
      let I : Function → Type 0 = λ x. ill_called x.takes (Listed l) at ≡ None in
      yields kind.Backend (callee.Director k) e tt (ap (λ (x : Function). x.gives) same) (directed k d there way g c at (subst I same i))
  calls f name {l} (names.to_director way same) g c at i u = enrols way same

  call-good : (f : Function) (place : ℕ) (name : List ℕ) (l : Phrase) → Call f name l → Good (given_sort f.gives) (Node Called (Named place name) l)
  call-good f place name l (does c e p n t) = subst (λ (o : Option Kind). Good (given_sort o) (Node Called (Named place name) l)) (sym n) tt
  call-good f place name l (yields k c e p n t) =
      subst (λ (o : Option Kind). Good (given_sort o) (Node Called (Named place name) l)) (sym n) (called-typed scene known k place name l c e t)
  call-good f place name l (changes k i e n t) = subst (λ (o : Option Kind). Good (given_sort o) (Node Called (Named place name) l)) (sym n) tt
  call-good f place name l (enrols way same) = subst (λ (x : Function). Good (given_sort x.gives) (Node Called (Named place name) l)) (sym same) tt

  called-fine : (place : ℕ) (name : List ℕ) {l : Phrase} → AreFine l → Fine (Node Called (Named place name) l)
  called-fine place name {l} g c =
      let called-clean = left-clean known roots Value Called (Named place name) l c in
      let k = function-does known scene stands name (known-name known roots (Name use'.Function) use'.Function place name refl called-clean) in
      let I : Meaning → Type 0 = λ x. ill_function x (Listed l) place ≡ None in
      let U : Meaning → Type 0 = λ x. unwritten_call x (Listed l) ≡ None in
      let G : Meaning → Type 0 = λ x. Good (call_sort x) (Node Called (Named place name) l) in
      let i = subst I k.1 (fits known roots Value Called (Named place name) l c) in
      let u = subst U k.1 (written known roots Value Called (Named place name) l c) in
      subst G (sym k.1) (call-good k.0 place name l (calls k.0 name k.2 g (right-clean known roots Value Called (Named place name) l c) place i u))

  -- a name that is read
  named-good : (s : Sort) (place : ℕ) (name : List ℕ) → ReadsAs known scene name s → Good s (Named place name)
  named-good (sort.Value (Some k)) place name h = named-typed scene known k place name h
  named-good (sort.Value None) place name h = absurd h
  named-good sort.Acl place name h = tt
  named-good sort.Weight place name h = absurd h
  named-good sort.Nothing place name h = tt

  reads : (place : ℕ) (name : List ℕ) → Clean known roots Value (Named place name) → ReadsAs known scene name (sort_of (meaning_of known use'.Read name))
  reads place name c =
      let may : Subroutine → Bool = λ x. may_use use'.Read (meaning_of known use'.Read name) x in
      let all = both-true (list_all may roots) (is_reached roots || not (is_for_init use'.Read (meaning_of known use'.Read name)))
      (unless-none (may_be_used roots use'.Read (meaning_of known use'.Read name)) place (used-name known roots Value place name c)) in
      name-reads known scene stands name root (known-name known roots Value use'.Read place name refl c) (all-contained may roots root all.0 reached.0 reached.1 reached.2)

  name-fine : (place : ℕ) (name : List ℕ) → Fine (Named place name)
  name-fine place name c = named-good (sort_of (meaning_of known use'.Read name)) place name (reads place name c)

  -- the right side of a match
  acl-named : (s : Sort) (name : List ℕ) → ReadsAs known scene name s → is_acl s ≡ true → AclNamed known scene name
  acl-named sort.Acl name r h = r
  acl-named _ name r h = absurd (false-true h)

  acl-sought : (e : Phrase) → is_acl (SortOf e) ≡ true → Clean known roots Value e → Sought scene known kind.Ip e
  acl-sought (Named place name) h c = typed.acl_named place name refl (acl-named (sort_of (meaning_of known use'.Read name)) name (reads place name c) h)
  acl-sought (String place text) h c = absurd (false-true h)
  acl-sought (Integer place n) h c = absurd (false-true h)
  acl-sought (Weight place digits) h c = absurd (false-true h)
  acl-sought (Duration place n) h c = absurd (false-true h)
  acl-sought Nothing h c = absurd (false-true h)
  acl-sought (At place) h c = absurd (false-true h)
  acl-sought (Node Called a b) h c = absurd (call-no-acl (view_of known (Name use'.Function) a).meaning h)
  acl-sought (Node _ a b) h c = absurd (false-true h)

  string-sought : (k : Kind) (e : Phrase) → is_string (view_of known Value e).literal ≡ true → Sought scene known k e
  string-sought k e w = let t = string-text known e w in subst (λ (x : Phrase). Sought scene known k x) (sym t.2) (typed.pattern_of t.0 t.1)

  right-sought : (k : Kind) (e : Phrase) → (not (is_ip (sort.Value (Some k))) || is_acl (SortOf e)) ≡ true → (not (is_searched (sort.Value (Some k))) || is_string (view_of known Value e).literal) ≡ true
      → Clean known roots Value e → Sought scene known k e
  right-sought kind.Ip e a w c = acl-sought e a c
  right-sought kind.String e a w c = string-sought kind.String e w
  right-sought kind.Int e a w c = string-sought kind.Int e w
  right-sought kind.Duration e a w c = string-sought kind.Duration e w
  right-sought kind.Bool e a w c = string-sought kind.Bool e w
  right-sought kind.Backend e a w c = string-sought kind.Backend e w

  -- operands, of which each is fine by itself
  two-conditions : (d e : Phrase) → both_fit (is_condition (SortOf d)) (is_condition (SortOf e)) (view_of known Value d) (view_of known Value e) ≡ None
      → Good (SortOf d) d → Good (SortOf e) e → Conditional (SortOf d) d × Conditional (SortOf e) e
  two-conditions d e m f g =
      let x = both-fits (is_condition (SortOf d)) (is_condition (SortOf e)) (view_of known Value d) (view_of known Value e) m in
      (conditional (SortOf d) d x.0 f, conditional (SortOf e) e x.1 g)

  abbrev Two : (Kind → Kind → Type 0) → Phrase → Phrase → Type 0
  Two P d e = (k : Kind) × (l : Kind) × P k l × Typed scene known k d × Typed scene known l e

  abbrev SameKinds : Kind → Kind → Type 0
  SameKinds k l = same_kind k l ≡ true

  abbrev Ordered : Kind → Kind → Type 0
  Ordered k l = (is_ordered (sort.Value (Some k)) ≡ true) × (same_kind k l ≡ true)

  two-alike : (d e : Phrase) → is_value (SortOf d) ≡ true → alike (SortOf d) (SortOf e) ≡ true → Good (SortOf d) d → Good (SortOf e) e
      → (k : Kind) × (l : Kind) × (SortOf d ≡ sort.Value (Some k)) × (SortOf e ≡ sort.Value (Some l)) × SameKinds k l × Typed scene known k d × Typed scene known l e
  two-alike d e v a f g =
      let x = valued (SortOf d) d v f in
      let b : alike (sort.Value (Some x.0)) (SortOf e) ≡ true = subst (λ (s : Sort). alike s (SortOf e) ≡ true) x.1 a in
      let y = valued (SortOf e) e (alike-value x.0 (SortOf e) b) g in
      (x.0, y.0, x.1, y.1, subst (λ (s : Sort). alike (sort.Value (Some x.0)) s ≡ true) y.1 b, x.2, y.2)

  equals : (d e : Phrase) → both_fit (is_value (SortOf d)) (alike (SortOf d) (SortOf e)) (view_of known Value d) (view_of known Value e) ≡ None → Good (SortOf d) d → Good (SortOf e) e
      → Two SameKinds d e
  equals d e m f g =
      let x = both-fits (is_value (SortOf d)) (alike (SortOf d) (SortOf e)) (view_of known Value d) (view_of known Value e) m in
      let t = two-alike d e x.0 x.1 f g in
      (t.0, t.1, t.4, t.5, t.6)

  orders : (d e : Phrase) → both_fit (is_ordered (SortOf d)) (alike (SortOf d) (SortOf e)) (view_of known Value d) (view_of known Value e) ≡ None → Good (SortOf d) d → Good (SortOf e) e
      → Two Ordered d e
  orders d e m f g =
      let x = both-fits (is_ordered (SortOf d)) (alike (SortOf d) (SortOf e)) (view_of known Value d) (view_of known Value e) m in
      let t = two-alike d e (ordered-value (SortOf d) x.0) x.1 f g in
      (t.0, t.1, (subst (λ (s : Sort). is_ordered s ≡ true) t.2 x.0, t.4), t.5, t.6)

  -- a match
  matches : (d e : Phrase) → both_fit (is_value (SortOf d)) (not (is_ip (SortOf d)) || is_acl (SortOf e)) (view_of known Value d) (view_of known Value e) ≡ None
      → (not (is_searched (SortOf d)) || is_string (view_of known Value e).literal) ≡ true → Good (SortOf d) d → Clean known roots Value e
      → (k : Kind) × Typed scene known k d × Sought scene known k e
  matches d e m w f c =
      let x = both-fits (is_value (SortOf d)) (not (is_ip (SortOf d)) || is_acl (SortOf e)) (view_of known Value d) (view_of known Value e) m in
      let v = valued (SortOf d) d x.0 f in
      let a = subst (λ (s : Sort). (not (is_ip s) || is_acl (SortOf e)) ≡ true) v.1 x.1 in
      let b = subst (λ (s : Sort). (not (is_searched s) || is_string (view_of known Value e).literal) ≡ true) v.1 w in
      (v.0, v.2, right-sought v.0 e a b c)

  compared-good : (how : Asked) (d e : Phrase) → Clean known roots Value (Node (Compared how) d e) → Good (SortOf d) d → Good (SortOf e) e
      → Typed scene known kind.Bool (Node (Compared how) d e)
  compared-good asked.Equal d e c f g = let t = equals d e (fits known roots Value (Compared asked.Equal) d e c) f g in equal-typed scene known t.0 t.1 d e t.2 t.3 t.4
  compared-good asked.NotEqual d e c f g = let t = equals d e (fits known roots Value (Compared asked.NotEqual) d e c) f g in unequal-typed scene known t.0 t.1 d e t.2 t.3 t.4
  compared-good asked.Less d e c f g = let t = orders d e (fits known roots Value (Compared asked.Less) d e c) f g in less-typed scene known t.0 t.1 d e t.2 t.3 t.4
  compared-good asked.LessOrEqual d e c f g =
      let t = orders d e (fits known roots Value (Compared asked.LessOrEqual) d e c) f g in less-or-equal-typed scene known t.0 t.1 d e t.2 t.3 t.4
  compared-good asked.Greater d e c f g = let t = orders d e (fits known roots Value (Compared asked.Greater) d e c) f g in greater-typed scene known t.0 t.1 d e t.2 t.3 t.4
  compared-good asked.GreaterOrEqual d e c f g =
      let t = orders d e (fits known roots Value (Compared asked.GreaterOrEqual) d e c) f g in greater-or-equal-typed scene known t.0 t.1 d e t.2 t.3 t.4
  compared-good asked.Match d e c f g =
      let w = unless-none (not (is_searched (SortOf d)) || is_string (view_of known Value e).literal) (view_of known Value e).first (written known roots Value (Compared asked.Match) d e c) in
      let t = matches d e (fits known roots Value (Compared asked.Match) d e c) w f (right-clean known roots Value (Compared asked.Match) d e c) in
      match-typed scene known t.0 d e t.1 t.2
  compared-good asked.NotMatch d e c f g =
      let w = unless-none (not (is_searched (SortOf d)) || is_string (view_of known Value e).literal) (view_of known Value e).first (written known roots Value (Compared asked.NotMatch) d e c) in
      let t = matches d e (fits known roots Value (Compared asked.NotMatch) d e c) w f (right-clean known roots Value (Compared asked.NotMatch) d e c) in
      mismatch-typed scene known t.0 d e t.1 t.2

  either-fine : {d e : Phrase} → Fine d → Fine e → Fine (Node Either d e)
  either-fine {d} {e} f g c =
      let x = two-conditions d e (fits known roots Value Either d e c) (f (left-clean known roots Value Either d e c)) (g (right-clean known roots Value Either d e c)) in
      either-typed scene known x.0.0 x.1.0 d e x.0.1 x.1.1 x.0.2 x.1.2

  both-fine : {d e : Phrase} → Fine d → Fine e → Fine (Node Both d e)
  both-fine {d} {e} f g c =
      let x = two-conditions d e (fits known roots Value Both d e c) (f (left-clean known roots Value Both d e c)) (g (right-clean known roots Value Both d e c)) in
      both-typed scene known x.0.0 x.1.0 d e x.0.1 x.1.1 x.0.2 x.1.2

  not-fine : (place : ℕ) {e : Phrase} → Fine e → Fine (Node Not (At place) e)
  not-fine place {e} g c =
      let x = unless-none (is_condition (SortOf e)) (view_of known Value e).first (fits known roots Value Not (At place) e c) in
      let v = conditional (SortOf e) e x (g (right-clean known roots Value Not (At place) e c)) in
      not-typed scene known v.0 (At place) e v.1 v.2

  compared-fine : {d e : Phrase} (how : Asked) → Fine d → Fine e → Fine (Node (Compared how) d e)
  compared-fine {d} {e} how f g c = compared-good how d e c (f (left-clean known roots Value (Compared how) d e c)) (g (right-clean known roots Value (Compared how) d e c))

  -- sums and differences
  sum-good : (k l : Kind) (e : Phrase) → adds k l ≡ true → ((m : Kind) → sum_kind k l ≡ Some m → Typed scene known m e) → Good (sort.Value (sum_kind k l)) e
  sum-good kind.String l e h g = g kind.String refl
  sum-good kind.Int kind.String e h g = g kind.String refl
  sum-good kind.Int kind.Int e h g = g kind.Int refl
  sum-good kind.Int _ e h g = absurd (false-true h)
  sum-good kind.Duration kind.String e h g = g kind.String refl
  sum-good kind.Duration kind.Duration e h g = g kind.Duration refl
  sum-good kind.Duration _ e h g = absurd (false-true h)
  sum-good kind.Bool kind.String e h g = g kind.String refl
  sum-good kind.Bool _ e h g = absurd (false-true h)
  sum-good kind.Ip kind.String e h g = g kind.String refl
  sum-good kind.Ip _ e h g = absurd (false-true h)
  sum-good kind.Backend kind.String e h g = g kind.String refl
  sum-good kind.Backend _ e h g = absurd (false-true h)

  added-fine : {d e : Phrase} → Fine d → Fine e → Fine (Node Added d e)
  added-fine {d} {e} f g c =
      let x = both-fits (is_value (SortOf d)) (may_add (SortOf d) (SortOf e)) (view_of known Value d) (view_of known Value e) (fits known roots Value Added d e c) in
      let v = valued (SortOf d) d x.0 (f (left-clean known roots Value Added d e c)) in
      let a : may_add (sort.Value (Some v.0)) (SortOf e) ≡ true = subst (λ (s : Sort). may_add s (SortOf e) ≡ true) v.1 x.1 in
      let w = valued (SortOf e) e (add-value v.0 (SortOf e) a) (g (right-clean known roots Value Added d e c)) in
      let b : adds v.0 w.0 ≡ true = subst (λ (s : Sort). may_add (sort.Value (Some v.0)) s ≡ true) w.1 a in
      let G : Sort → Sort → Type 0 = λ s t. Good (sum_sort s t) (Node Added d e) in
      subst (λ (s : Sort). G s (SortOf e)) (sym v.1) (subst (λ (t : Sort). G (sort.Value (Some v.0)) t) (sym w.1)
      (sum-good v.0 w.0 (Node Added d e) b (λ m z. sum-typed scene known v.0 w.0 m d e b z v.2 w.2)))

  difference-good : (k l : Kind) (e : Phrase) → is_ordered (sort.Value (Some k)) ≡ true → same_kind k l ≡ true
      → ((m : Kind) → difference_kind k l ≡ Some m → Typed scene known m e) → Good (sort.Value (difference_kind k l)) e
  difference-good kind.Int kind.Int e o h g = g kind.Int refl
  difference-good kind.Int _ e o h g = absurd (false-true h)
  difference-good kind.Duration kind.Duration e o h g = g kind.Duration refl
  difference-good kind.Duration _ e o h g = absurd (false-true h)
  difference-good kind.String l e o h g = absurd (false-true o)
  difference-good kind.Bool l e o h g = absurd (false-true o)
  difference-good kind.Ip l e o h g = absurd (false-true o)
  difference-good kind.Backend l e o h g = absurd (false-true o)

  subtracted-fine : {d e : Phrase} → Fine d → Fine e → Fine (Node Subtracted d e)
  subtracted-fine {d} {e} f g c =
      let x = both-fits (is_ordered (SortOf d)) (alike (SortOf d) (SortOf e)) (view_of known Value d) (view_of known Value e) (fits known roots Value Subtracted d e c) in
      let t = two-alike d e (ordered-value (SortOf d) x.0) x.1 (f (left-clean known roots Value Subtracted d e c)) (g (right-clean known roots Value Subtracted d e c)) in
      let o = subst (λ (s : Sort). is_ordered s ≡ true) t.2 x.0 in
      let G : Sort → Sort → Type 0 = λ s u. Good (difference_sort s u) (Node Subtracted d e) in
      subst (λ (s : Sort). G s (SortOf e)) (sym t.2) (subst (λ (u : Sort). G (sort.Value (Some t.0)) u) (sym t.3)
      (difference-good t.0 t.1 (Node Subtracted d e) o t.4 (λ m z. difference-typed scene known t.0 t.1 m d e o t.4 z t.5 t.6)))

  group-fine : (place : ℕ) {e : Phrase} → Fine e → Fine (Node Group (At place) e)
  group-fine place {e} g c =
      let x = unless-none (is_value (SortOf e)) (view_of known Value e).first (fits known roots Value Group (At place) e c) in
      let v = valued (SortOf e) e x (g (right-clean known roots Value Group (At place) e c)) in
      subst (λ (s : Sort). Good (grouped_sort s) (Node Group (At place) e)) (sym v.1) (group-typed scene known v.0 (At place) e v.2)

  named-fine : {e : Phrase} {x : Token} → IsName e x → Fine e
  named-fine (plain_name {p} {t}) = name-fine p t
  named-fine (word_name {p} {w} {t}) = name-fine p t

  call-fine : {e l : Phrase} {x : Token} → IsName e x → AreFine l → Fine (Node Called e l)
  call-fine (plain_name {p} {t}) g = called-fine p t g
  call-fine (word_name {p} {w} {t}) g = called-fine p t g

  mutual
    pub expression-fine : {e : Phrase} {ts rest : List Token} → IsExpression e ts rest → Fine e
    expression-fine (grammar.conjunction h) = conjunction-fine h
    expression-fine (grammar.either h k) = either-fine (expression-fine h) (conjunction-fine k)

    conjunction-fine : {e : Phrase} {ts rest : List Token} → IsConjunction e ts rest → Fine e
    conjunction-fine (grammar.negation h) = negation-fine h
    conjunction-fine (grammar.both h k) = both-fine (conjunction-fine h) (negation-fine k)

    negation-fine : {e : Phrase} {ts rest : List Token} → IsNegation e ts rest → Fine e
    negation-fine (grammar.comparison h) = comparison-fine h
    negation-fine (grammar.not {p = p} h) = not-fine p (comparison-fine h)

    comparison-fine : {e : Phrase} {ts rest : List Token} → IsComparison e ts rest → Fine e
    comparison-fine (grammar.sum h) = sum-fine h
    comparison-fine (grammar.compared {how = how} h s k) = compared-fine how (sum-fine h) (sum-fine k)

    sum-fine : {e : Phrase} {ts rest : List Token} → IsSum e ts rest → Fine e
    sum-fine (grammar.term h) = term-fine h
    sum-fine (grammar.added h k) = added-fine (sum-fine h) (term-fine k)
    sum-fine (grammar.subtracted h k) = subtracted-fine (sum-fine h) (term-fine k)
    sum-fine (grammar.side_by_side h n k) = added-fine (sum-fine h) (term-fine k)

    term-fine : {e : Phrase} {ts rest : List Token} → IsTerm e ts rest → Fine e
    term-fine (grammar.group {p = p} h) = group-fine p (expression-fine h)
    term-fine (grammar.string_term {p = p} {t = t}) = λ c. string-typed scene known p t
    term-fine (grammar.integer_term {p = p} {n = n}) = λ c. integer-typed scene known p n
    term-fine (grammar.duration_term {p = p} {n = n}) = λ c. duration-typed scene known p n
    term-fine (grammar.minus_integer {p = p}) = λ c. integer-typed scene known p _
    term-fine (grammar.minus_duration {p = p}) = λ c. duration-typed scene known p _
    term-fine (grammar.variable h n) = named-fine h
    term-fine (grammar.call h k) = call-fine h (arguments-fine k)

    pub arguments-fine : {b : Bool} {l : Phrase} {ts rest : List Token} → IsArguments b l ts rest → AreFine l
    arguments-fine (grammar.no_arguments) = none
    arguments-fine (grammar.arguments h) = list-fine h

    list-fine : {b : Bool} {l : Phrase} {ts rest : List Token} → IsArgumentList b l ts rest → AreFine l
    list-fine (grammar.first_argument h) = more none (expression-fine h)
    list-fine (grammar.next_argument h k) = more (list-fine h) (expression-fine k)
    list-fine (grammar.weight_argument h e) = more (list-fine h) (λ c. tt)
