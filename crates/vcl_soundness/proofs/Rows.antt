-- The tables of names by which a text is checked and those by which it is numbered have the same rows.
use Rattle.std.proofs.Common.{◌≡◌, ℕ, zero, suc, ◌<◌, ◌==◌, ◌&&◌, Bool, true, false, length, List, [], ◌∷◌, refl, sym, ap, ◌∙◌, map, position, Option, Some, None, is_some, option_and_then, slice_get, get_or, if◌then◌else◌, arith}
use Rattle.std.specs.Str.{bytes_eq}
use Rattle.std.specs.List.{list_all}
use Rattle.std.proofs.lemmas.List.Quantifiers.{position-Some}
use Rattle.std.proofs.lemmas.Option.{none-some, same_Some}
use Rattle.vcl_values.specs.declared.value.Kind.{Kind}
use Rattle.vcl_values.specs.declared.value.Kind.TheVariants as kind
use Rattle.vcl_language.specs.Functions.{function_named, one}
use Rattle.vcl_language.specs.Scopes.{has}
use Rattle.vcl_language.specs.Variables.{is_field_of, plain_named, field_named, or_else, variable_named}
use Rattle.vcl_language.specs.declared.functions.Function.{Function}
use Rattle.vcl_language.specs.declared.functions.Parameter.TheVariants.{Value, Pattern}
use Rattle.vcl_language.specs.declared.functions.Slot.{Slot}
use Rattle.vcl_language.specs.declared.functions.Slot.TheVariants.{Needed}
use Rattle.vcl_language.specs.declared.functions.TheConstants.{FUNCTIONS}
use Rattle.vcl_language.specs.declared.scope.Scope.{Scope}
use Rattle.vcl_language.specs.declared.scope.Scope.TheVariants as scope
use Rattle.vcl_language.specs.declared.scope.Subroutine.{Subroutine}
use Rattle.vcl_language.specs.declared.variables.TheConstants.{VARIABLES as ROWS, FIELDS}
use Rattle.vcl_language.specs.declared.variables.Variable.{Variable as Row}
use Rattle.vcl_context.specs.Names.{behind, field_among, variable_of, field_of}
use Rattle.vcl_context.specs.declared.names.TheConstants.{NAMES, VARIABLES, FRONTS, MESSAGES}
use Rattle.vcl_context.specs.declared.variable.Message.{Message}
use Rattle.vcl_context.specs.declared.variable.Variable.{Variable}
use Rattle.vcl_code.specs.Names.{Target, Field, NoTarget, plain_or_field, target_of, builtin_of}
use Rattle.vcl_code.specs.declared.callees.Builtin.{Builtin}
use Rattle.vcl_code.specs.declared.callees.Builtin.TheVariants as builtin
use Rattle.vcl_code.specs.declared.callees.TheConstants.{BUILTINS, BUILTIN_NAMES}

pub false-true : false ≡ true → ⊥
false-true e = cc

pub if-true : {A : Type 0} (b : Bool) (x y : A) → b ≡ true → (if b then x else y) ≡ x
if-true true x y e = refl
if-true false x y e = absurd (false-true e)

pub both-true : (a b : Bool) → (a && b) ≡ true → (a ≡ true) × (b ≡ true)
both-true true b e = (refl, e)
both-true false b e = absurd (false-true e)

-- lists of one length have the same rows
pub at-row : {A B : Type 0} (xs : List A) (ys : List B) (k : ℕ) (x : A) → length xs ≡ length ys → slice_get xs k ≡ Some x → (y : B) × (slice_get ys k ≡ Some y)
at-row [] ys k x l e = absurd (none-some x e)
at-row (a ∷ xs) [] k x l e = absurd (omega (arith, l))
at-row (a ∷ xs) (b ∷ ys) zero x l e = (b, refl)
at-row (a ∷ xs) (b ∷ ys) (suc k) x l e = at-row xs ys k x (omega (arith, l)) e

pub no-row : {A B : Type 0} (xs : List A) (ys : List B) (k : ℕ) → length xs ≡ length ys → slice_get xs k ≡ None → slice_get ys k ≡ None
no-row [] [] k l e = refl
no-row [] (b ∷ ys) k l e = absurd (omega (arith, l))
no-row (a ∷ xs) [] k l e = refl
no-row (a ∷ xs) (b ∷ ys) zero l e = absurd (none-some a (sym e))
no-row (a ∷ xs) (b ∷ ys) (suc k) l e = no-row xs ys k (omega (arith, l)) e

-- rows of one number in both
pub row-in : {A B : Type 0} (xs : List A) (ys : List B) (row : Option ℕ) (x : A) → length xs ≡ length ys → option_and_then (λ k. slice_get xs k) row ≡ Some x
    → (y : B) × (option_and_then (λ k. slice_get ys k) row ≡ Some y)
row-in xs ys None x l e = absurd (none-some x e)
row-in xs ys (Some k) x l e = at-row xs ys k x l e

pub no-row-in : {A B : Type 0} (xs : List A) (ys : List B) (row : Option ℕ) → length xs ≡ length ys → option_and_then (λ k. slice_get xs k) row ≡ None
    → option_and_then (λ k. slice_get ys k) row ≡ None
no-row-in xs ys None l e = refl
no-row-in xs ys (Some k) l e = no-row xs ys k l e

-- what is set or read
abbrev pub IsTarget : Target → Type 0
IsTarget NoTarget = ⊥
IsTarget _ = Unit {0}

-- what is unset
abbrev pub IsField : Target → Type 0
IsField (Field message name) = Unit {0}
IsField _ = ⊥

plain-row : (name : List ℕ) (v : Row) → plain_named name ≡ Some v → (w : Variable) × (variable_of name ≡ Some w)
unfolding plain_named variable_of
plain-row name v e = row-in ROWS VARIABLES (position (λ known. bytes_eq known.now name) NAMES) v refl e

no-plain-row : (name : List ℕ) → plain_named name ≡ None → variable_of name ≡ None
unfolding plain_named variable_of
no-plain-row name e = no-row-in ROWS VARIABLES (position (λ known. bytes_eq known.now name) NAMES) refl e

-- what stands behind a front
behind-front : (front name : List ℕ) → is_field_of front name ≡ true → (field : List ℕ) × (behind front name ≡ Some field)
behind-front [] [] e = absurd (false-true e)
behind-front [] (byte ∷ name) e = (byte ∷ name, refl)
behind-front (first ∷ front) [] e = absurd (false-true e)
behind-front (first ∷ front) (byte ∷ name) e =
    let b = both-true (first == byte) (is_field_of front name) e in
    let more = behind-front front name b.1 in
    (more.0, if-true (first == byte) (behind front name) None b.0 ∙ more.1)

abbrev HasField : List (List ℕ) → List Message → List ℕ → Type 0
HasField fronts messages name = (f : Message × List ℕ) × (field_among fronts messages name ≡ Some f)

here-or-later : (front : List ℕ) (fronts : List (List ℕ)) (message : Message) (messages : List Message) (name : List ℕ) (o : Option (List ℕ)) → behind front name ≡ o
    → (o ≡ None → HasField fronts messages name) → HasField (front ∷ fronts) (message ∷ messages) name
here-or-later front fronts message messages name (Some field) e later = ((message, field), rw (e) refl)
here-or-later front fronts message messages name None e later = let f = later refl in (f.0, rw (e) f.1)

field-at : (fronts : List (List ℕ)) (messages : List Message) (name : List ℕ) (k : ℕ) → length fronts ≡ length messages → k < length fronts
    → is_field_of (get_or fronts k name) name ≡ true → HasField fronts messages name
field-at [] messages name k l low e = absurd (omega (arith, low))
field-at (front ∷ fronts) [] name k l low e = absurd (omega (arith, l))
field-at (front ∷ fronts) (message ∷ messages) name zero l low e =
    let f = behind-front front name e in
    here-or-later front fronts message messages name (Some f.0) f.1 (λ n. absurd (none-some f.0 (sym n)))
field-at (front ∷ fronts) (message ∷ messages) name (suc k) l low e =
    here-or-later front fronts message messages name (behind front name) refl (λ n. field-at fronts messages name k (omega (arith, l)) (omega (arith, low)) e)

field-found : (name : List ℕ) (row : Option ℕ) (v : Row) → position (λ front. is_field_of front name) (map (λ front. front.now) FRONTS) ≡ row
    → is_some row ≡ true → HasField (map (λ front. front.now) FRONTS) MESSAGES name
field-found name None v at e = absurd (false-true e)
field-found name (Some k) v at e =
    let x = position-Some (λ front. is_field_of front name) (map (λ front. front.now) FRONTS) k name at in
    field-at (map (λ front. front.now) FRONTS) MESSAGES name k refl x.0 x.1

some-row : {A : Type 0} (xs : List A) (row : Option ℕ) (x : A) → option_and_then (λ k. slice_get xs k) row ≡ Some x → is_some row ≡ true
some-row xs None x e = absurd (none-some x e)
some-row xs (Some k) x e = refl

field-row : (name : List ℕ) (v : Row) → field_named name ≡ Some v → (x : Message × List ℕ) × (field_of name ≡ Some x)
unfolding field_named field_of
field-row name v e =
    let row : Option ℕ = position (λ front. is_field_of front name) (map (λ front. front.now) FRONTS) in
    field-found name row v refl (some-row FIELDS row v e)

-- a variable that is known is one that is read and set
pub target-found : (name : List ℕ) (v : Row) → variable_named name ≡ Some v → IsTarget (target_of name)
unfolding variable_named target_of
target-found name v e = either-row name (plain_named name) (field_named name) v refl refl e
  where
    of-plain : (o : Option Variable) (f : Option (Message × List ℕ)) (w : Variable) → o ≡ Some w → IsTarget (plain_or_field o f)
    of-plain (Some x) f w e = tt
    of-plain None f w e = absurd (none-some w e)

    of-field : (o : Option Variable) (f : Option (Message × List ℕ)) (x : Message × List ℕ) → f ≡ Some x → IsTarget (plain_or_field o f)
    of-field (Some w) f x e = tt
    of-field None (Some y) x e = tt
    of-field None None x e = absurd (none-some x e)

    either-row : (name : List ℕ) (p f : Option Row) (v : Row) → plain_named name ≡ p → field_named name ≡ f → or_else p f ≡ Some v → IsTarget (plain_or_field (variable_of name) (field_of name))
    either-row name (Some r) f v p-is f-is e = let w = plain-row name r p-is in of-plain (variable_of name) (field_of name) w.0 w.1
    either-row name None f v p-is f-is e = let x = field-row name v (f-is ∙ e) in of-field (variable_of name) (field_of name) x.0 x.1

-- no variable but a field is unset anywhere
abbrev is_nowhere : Scope → Bool
is_nowhere scope.Nowhere = true
is_nowhere _ = false

nowhere-has : (c : Scope) (s : Subroutine) → is_nowhere c ≡ true → has c s ≡ true → ⊥
nowhere-has scope.Nowhere s e h = false-true h
nowhere-has _ s e h = false-true e

pub passes : {A : Type 0} (p : A → Bool) (xs : List A) (k : ℕ) (x : A) → list_all p xs ≡ true → slice_get xs k ≡ Some x → p x ≡ true
passes p [] k x all e = absurd (none-some x e)
passes p (a ∷ xs) zero x all e = ap p (sym (same_Some a x e)) ∙ (both-true (p a) (list_all p xs) all).0
passes p (a ∷ xs) (suc k) x all e = passes p xs k x (both-true (p a) (list_all p xs) all).1 e

plain-unset : (row : Option ℕ) (v : Row) → option_and_then (λ k. slice_get ROWS k) row ≡ Some v → is_nowhere v.unset ≡ true
plain-unset None v e = absurd (none-some v e)
plain-unset (Some k) v e = passes (λ (r : Row). is_nowhere r.unset) ROWS k v refl e

plain-not-unset : (name : List ℕ) (v : Row) (s : Subroutine) → plain_named name ≡ Some v → has v.unset s ≡ true → ⊥
unfolding plain_named
plain-not-unset name v s e h = nowhere-has v.unset s (plain-unset (position (λ known. bytes_eq known.now name) NAMES) v e) h

pub field-unset : (name : List ℕ) (v : Row) (s : Subroutine) → variable_named name ≡ Some v → has v.unset s ≡ true → IsField (target_of name)
unfolding variable_named target_of
field-unset name v s e h = either-row name (plain_named name) (field_named name) refl refl e
  where
    of-field : (o : Option Variable) (f : Option (Message × List ℕ)) (x : Message × List ℕ) → o ≡ None → f ≡ Some x → IsField (plain_or_field o f)
    of-field (Some w) f x o-is e = absurd (none-some w (sym o-is))
    of-field None (Some y) x o-is e = tt
    of-field None None x o-is e = absurd (none-some x e)

    either-row : (name : List ℕ) (p f : Option Row) → plain_named name ≡ p → field_named name ≡ f → or_else p f ≡ Some v → IsField (plain_or_field (variable_of name) (field_of name))
    either-row name (Some r) f p-is f-is e = absurd (plain-not-unset name v s (p-is ∙ e) h)
    either-row name None f p-is f-is e = let x = field-row name v (f-is ∙ e) in of-field (variable_of name) (field_of name) x.0 (no-plain-row name p-is) x.1

-- what a function of the language takes and gives
abbrev pub text_pattern_text : List Slot
text_pattern_text = Needed (Value kind.String) ∷ Needed Pattern ∷ Needed (Value kind.String) ∷ []

abbrev pub takes_of : Builtin → List Slot
takes_of (builtin.Substitute all) = text_pattern_text
takes_of _ = one (Value kind.String)

abbrev pub gives_of : Builtin → Option Kind
gives_of (builtin.Substitute all) = Some kind.String
gives_of (builtin.Xkey soft) = Some kind.Int
gives_of _ = None

pub record IsRowOf (f : Function) (b : Builtin) : Type 0 where
  pub takes : f.takes ≡ takes_of b
  pub gives : f.gives ≡ gives_of b

row-is : (f g : Function) (b : Builtin) → g.takes ≡ takes_of b → g.gives ≡ gives_of b → Some g ≡ Some f → IsRowOf f b
row-is f g b t h e =
    let same : g ≡ f = same_Some g f e in
    record { takes = ap (λ (x : Function). x.takes) (sym same) ∙ t; gives = ap (λ (x : Function). x.gives) (sym same) ∙ h }

at-function : (row : Option ℕ) (f : Function) → option_and_then (λ k. slice_get FUNCTIONS k) row ≡ Some f
    → (b : Builtin) × (option_and_then (λ k. slice_get BUILTINS k) row ≡ Some b) × IsRowOf f b
at-function None f e = absurd (none-some f e)
at-function (Some zero) f e = (builtin.HashData, refl, row-is f _ builtin.HashData refl refl e)
at-function (Some (suc zero)) f e = (builtin.Synthetic, refl, row-is f _ builtin.Synthetic refl refl e)
at-function (Some (suc (suc zero))) f e = (builtin.Ban, refl, row-is f _ builtin.Ban refl refl e)
at-function (Some (suc (suc (suc zero)))) f e = (builtin.Substitute false, refl, row-is f _ (builtin.Substitute false) refl refl e)
at-function (Some (suc (suc (suc (suc zero))))) f e = (builtin.Substitute true, refl, row-is f _ (builtin.Substitute true) refl refl e)
at-function (Some (suc (suc (suc (suc (suc zero)))))) f e = (builtin.Xkey false, refl, row-is f _ (builtin.Xkey false) refl refl e)
at-function (Some (suc (suc (suc (suc (suc (suc zero))))))) f e = (builtin.Xkey true, refl, row-is f _ (builtin.Xkey true) refl refl e)
at-function (Some (suc (suc (suc (suc (suc (suc (suc n)))))))) f e = absurd (none-some f e)

pub function-row : (name : List ℕ) (f : Function) → function_named name ≡ Some f → (b : Builtin) × (builtin_of name ≡ Some b) × IsRowOf f b
unfolding function_named builtin_of
function-row name f e = at-function (position (λ known. bytes_eq known.now name) BUILTIN_NAMES) f e

pub no-function-row : (name : List ℕ) → function_named name ≡ None → builtin_of name ≡ None
unfolding function_named builtin_of
no-function-row name e = no-row-in FUNCTIONS BUILTINS (position (λ known. bytes_eq known.now name) BUILTIN_NAMES) refl e
