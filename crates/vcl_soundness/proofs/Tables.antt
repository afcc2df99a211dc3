-- The variables of the language, by the tables of its check and those of its runs.
use Rattle.std.proofs.Common.{◌≡◌, ℕ, zero, suc, ◌+◌, ◌<◌, ◌==◌, nat_lt, Bool, true, false, not, ◌&&◌, ◌||◌, length, List, [], ◌∷◌, refl, sym, ap, ◌∙◌, subst, map, position, Option, Some, None, option_and_then, slice_get, if◌then◌else◌, arith}
use Rattle.std.specs.Str.{bytes_eq}
use Rattle.std.specs.List.{position_or_len}
use Rattle.std.proofs.lemmas.Bool.{ltb-true, lt-ltb}
use Rattle.std.proofs.lemmas.List.Quantifiers.{position-Some}
use Rattle.std.proofs.lemmas.Option.{none-some, same_Some}
use Rattle.vcl_values.specs.declared.value.Backend.{Backend}
use Rattle.vcl_values.specs.declared.value.Kind.{Kind}
use Rattle.vcl_values.specs.declared.value.Kind.TheVariants as kind
use Rattle.vcl_values.specs.Values.{kind_of}
use Rattle.vcl_language.specs.Scopes.{has}
use Rattle.vcl_language.specs.Variables.{is_field_of, plain_named, field_named, or_else, variable_named}
use Rattle.vcl_language.specs.declared.scope.Scope.{Scope}
use Rattle.vcl_language.specs.declared.scope.Scope.TheVariants as scope
use Rattle.vcl_language.specs.declared.scope.Subroutine.{Subroutine}
use Rattle.vcl_language.specs.declared.variables.TheConstants.{VARIABLES as ROWS, FIELDS, FIELD_NAMES}
use Rattle.vcl_language.specs.declared.variables.Variable.{Variable as Row}
use Rattle.vcl_context.specs.Kinds.{request_kind, object_kind, fetch_request_kind, fetch_response_kind, response_kind, kind_of_variable, is_set}
use Rattle.vcl_context.specs.Names.{behind, field_among, variable_of, field_of, is_set_somewhere}
use Rattle.vcl_context.specs.Reading.{time_or_unset, request_value, object_value, fetch_request_value, fetch_response_value, response_value, value_of}
use Rattle.vcl_context.specs.declared.context.Context.{Context}
use Rattle.vcl_context.specs.declared.context.ClientRequest.{ClientRequest}
use Rattle.vcl_context.specs.declared.context.CachedObject.{CachedObject}
use Rattle.vcl_context.specs.declared.context.FetchRequest.{FetchRequest}
use Rattle.vcl_context.specs.declared.context.FetchResponse.{FetchResponse}
use Rattle.http_heads.specs.declared.message.ResponseHead.{ResponseHead}
use Rattle.vcl_context.specs.declared.names.TheConstants.{NAMES, VARIABLES, FRONTS, MESSAGES}
use Rattle.vcl_context.specs.declared.variable.Message.{Message}
use Rattle.vcl_context.specs.declared.variable.Variable.{Variable}
use Rattle.vcl_context.specs.declared.variable.Variable.TheVariants as variable
use Rattle.vcl_context.specs.declared.variable.RequestVariable.{RequestVariable}
use Rattle.vcl_context.specs.declared.variable.RequestVariable.TheVariants as request
use Rattle.vcl_context.specs.declared.variable.ObjectVariable.{ObjectVariable}
use Rattle.vcl_context.specs.declared.variable.ObjectVariable.TheVariants as object
use Rattle.vcl_context.specs.declared.variable.FetchRequestVariable.{FetchRequestVariable}
use Rattle.vcl_context.specs.declared.variable.FetchRequestVariable.TheVariants as fetch
use Rattle.vcl_context.specs.declared.variable.FetchResponseVariable.{FetchResponseVariable}
use Rattle.vcl_context.specs.declared.variable.FetchResponseVariable.TheVariants as fetched
use Rattle.vcl_context.specs.declared.variable.ResponseVariable.{ResponseVariable}
use Rattle.vcl_context.specs.declared.variable.ResponseVariable.TheVariants as response
use Rattle.vcl_code.specs.Names.{Target, Plain, Field, NoTarget, plain_or_field, target_of}
use Rattle.vcl_check.specs.Kinds.{is_text}
use Rattle.vcl_check.specs.Rules.{is_nowhere}
use Rattle.vcl_soundness.proofs.Rows.{false-true, passes, row-in, no-row-in, IsTarget, target-found}

-- entries of one number of lists that are alike
alike-row : {A B C : Type 0} (f : A → C) (g : B → C) (xs : List A) (ys : List B) (k : ℕ) (x : A) (y : B) → map f xs ≡ map g ys → slice_get xs k ≡ Some x → slice_get ys k ≡ Some y → f x ≡ g y
alike-row f g [] ys k x y e a b = absurd (none-some x a)
alike-row f g (c ∷ xs) [] k x y e a b = absurd (none-some y b)
alike-row {A} {B} {C} f g (c ∷ xs) (d ∷ ys) zero x y e a b =
    let first : f c ≡ g d = cc in
    ap f (sym (same_Some c x a)) ∙ first ∙ ap g (same_Some d y b)
alike-row f g (c ∷ xs) (d ∷ ys) (suc k) x y e a b =
    let more : map f xs ≡ map g ys = cc in
    alike-row f g xs ys k x y more a b

row-at : {A B C : Type 0} (f : A → C) (g : B → C) (xs : List A) (ys : List B) (row : Option ℕ) (x : A) (y : B) → map f xs ≡ map g ys
    → option_and_then (λ k. slice_get xs k) row ≡ Some x → option_and_then (λ k. slice_get ys k) row ≡ Some y → f x ≡ g y
row-at f g xs ys None x y e a b = absurd (none-some x a)
row-at f g xs ys (Some k) x y e a b = alike-row f g xs ys k x y e a b

-- what is never read
abbrev pub is_body : Variable → Bool
is_body variable.Body = true
is_body _ = false

-- a variable with its type, which is set where the language lets it be set somewhere, and read where it lets it be read
pub record IsRow (v : Row) (w : Variable) : Type 0 where
  pub kind : kind_of_variable w ≡ v.kind
  pub set : is_set w ≡ is_set_somewhere v
  pub read : is_body w ≡ is_nowhere v.read

plain-row : (name : List ℕ) (v : Row) → plain_named name ≡ Some v → (w : Variable) × (variable_of name ≡ Some w) × IsRow v w
unfolding plain_named variable_of
plain-row name v e =
    let row : Option ℕ = position (λ known. bytes_eq known.now name) NAMES in
    let w = row-in ROWS VARIABLES row v refl e in
    let kinds : map kind_of_variable VARIABLES ≡ map (λ (r : Row). r.kind) ROWS = refl in
    let reads : map is_body VARIABLES ≡ map (λ (r : Row). is_nowhere r.read) ROWS = refl in
    let sets : map is_set VARIABLES ≡ map is_set_somewhere ROWS = refl in (
      w.0,
      w.1,
      record {
        kind = row-at kind_of_variable (λ (r : Row). r.kind) VARIABLES ROWS row w.0 v kinds w.1 e;
        set = row-at is_set is_set_somewhere VARIABLES ROWS row w.0 v sets w.1 e;
        read = row-at is_body (λ (r : Row). is_nowhere r.read) VARIABLES ROWS row w.0 v reads w.1 e;
      },
    )

no-plain-row : (name : List ℕ) → plain_named name ≡ None → variable_of name ≡ None
unfolding plain_named variable_of
no-plain-row name e = no-row-in ROWS VARIABLES (position (λ known. bytes_eq known.now name) NAMES) refl e

row-text : (row : Option ℕ) (v : Row) → option_and_then (λ k. slice_get FIELDS k) row ≡ Some v → is_text v.kind ≡ true
row-text None v e = absurd (none-some v e)
row-text (Some k) v e = passes (λ (r : Row). is_text r.kind) FIELDS k v refl e

text-kind : (k : Kind) → is_text k ≡ true → k ≡ kind.String
text-kind kind.String e = refl
text-kind kind.Int e = absurd (false-true e)
text-kind kind.Duration e = absurd (false-true e)
text-kind kind.Bool e = absurd (false-true e)
text-kind kind.Ip e = absurd (false-true e)
text-kind kind.Backend e = absurd (false-true e)

field-text : (name : List ℕ) (v : Row) → field_named name ≡ Some v → v.kind ≡ kind.String
unfolding field_named
field-text name v e = text-kind v.kind (row-text (position (λ front. is_field_of front.now name) FIELD_NAMES) v e)

-- what a variable's name stands for
abbrev pub TargetOf : Row → Target → Type 0
TargetOf v (Plain w) = IsRow v w
TargetOf v (Field message name) = v.kind ≡ kind.String
TargetOf v NoTarget = ⊥

pub target-is : (name : List ℕ) (v : Row) → variable_named name ≡ Some v → TargetOf v (target_of name)
unfolding variable_named target_of
target-is name v e = either-row (plain_named name) (field_named name) refl refl e
  where
    of-plain : (o : Option Variable) (f : Option (Message × List ℕ)) (w : Variable) → o ≡ Some w → IsRow v w → TargetOf v (plain_or_field o f)
    of-plain (Some x) f w e h = subst (λ (y : Variable). IsRow v y) (sym (same_Some x w e)) h
    of-plain None f w e h = absurd (none-some w e)

    of-field : (o : Option Variable) (f : Option (Message × List ℕ)) → o ≡ None → v.kind ≡ kind.String → IsTarget (plain_or_field o f) → TargetOf v (plain_or_field o f)
    of-field (Some w) f e k h = absurd (none-some w (sym e))
    of-field None (Some y) e k h = k
    of-field None None e k h = absurd h

    either-row : (p f : Option Row) → plain_named name ≡ p → field_named name ≡ f → or_else p f ≡ Some v → TargetOf v (plain_or_field (variable_of name) (field_of name))
    either-row (Some r) f p-is f-is e = let w = plain-row name v (p-is ∙ e) in of-plain (variable_of name) (field_of name) w.0 w.1 w.2
    either-row None f p-is f-is e =
        let found : IsTarget (plain_or_field (variable_of name) (field_of name)) = target-found name v (ap (λ (o : Option Row). or_else o (field_named name)) p-is ∙ f-is ∙ e) in
        of-field (variable_of name) (field_of name) (no-plain-row name p-is) (field-text name v (f-is ∙ e)) found

-- a name that is no variable's stands for none
pub first-none : {A : Type 0} (p : A → Bool) (x : A) (xs : List A) → position p (x ∷ xs) ≡ None → (p x ≡ false) × (position p xs ≡ None)
first-none {A} p x xs = by-first (p x) refl
  where
    q : ℕ
    q = position_or_len p xs

    at : Bool → ℕ → Option ℕ
    at b k = if b then Some k else None

    by-first : (b : Bool) → p x ≡ b → at (nat_lt (if not b then 1 + q else 0) (suc (length xs))) (if not b then 1 + q else 0) ≡ None → (p x ≡ false) × (position p xs ≡ None)
    by-first true f e = absurd (none-some 0 (sym e ∙ ap (λ (b : Bool). at b 0) (lt-ltb 0 (suc (length xs)) (omega arith))))
    by-first false f e = (f, by-order (nat_lt q (length xs)) refl)
      where
        by-order : (b : Bool) → nat_lt q (length xs) ≡ b → at b q ≡ None
        by-order true g = absurd (none-some (1 + q) (sym e ∙ ap (λ (b : Bool). at b (1 + q)) (lt-ltb (1 + q) (suc (length xs)) (omega (arith, ltb-true q (length xs) g)))))
        by-order false g = refl

not-behind : (front name : List ℕ) → is_field_of front name ≡ false → behind front name ≡ None
not-behind [] [] e = refl
not-behind [] (byte ∷ name) e = absurd (false-true (sym e))
not-behind (first ∷ front) [] e = refl
not-behind (first ∷ front) (byte ∷ name) e = by-byte (first == byte) (not-behind front name) e
  where
    by-byte : (b : Bool) → (is_field_of front name ≡ false → behind front name ≡ None) → (b && is_field_of front name) ≡ false → (if b then behind front name else None) ≡ None
    by-byte true more e = more e
    by-byte false more e = refl

no-field : (fronts : List (List ℕ)) (messages : List Message) (name : List ℕ) → position (λ front. is_field_of front name) fronts ≡ None → field_among fronts messages name ≡ None
no-field [] messages name e = refl
no-field (front ∷ fronts) [] name e = refl
no-field (front ∷ fronts) (message ∷ messages) name e =
    let f = first-none (λ front. is_field_of front name) front fronts e in
    let more : field_among fronts messages name ≡ None = no-field fronts messages name f.1 in
    rw (not-behind front name f.0) more

no-row : (row : Option ℕ) → option_and_then (λ k. slice_get FIELDS k) row ≡ None → (k : ℕ) → row ≡ Some k → k < 5 → ⊥
no-row None e k f low = none-some k f
no-row (Some zero) e k f low = none-some _ (sym e)
no-row (Some (suc zero)) e k f low = none-some _ (sym e)
no-row (Some (suc (suc zero))) e k f low = none-some _ (sym e)
no-row (Some (suc (suc (suc zero)))) e k f low = none-some _ (sym e)
no-row (Some (suc (suc (suc (suc zero))))) e k f low = none-some _ (sym e)
no-row (Some (suc (suc (suc (suc (suc n)))))) e k f low = let s : suc (suc (suc (suc (suc n)))) ≡ k = same_Some _ k f in omega (arith, s, low)

no-field-row : (name : List ℕ) → field_named name ≡ None → field_of name ≡ None
unfolding field_named field_of
no-field-row name e =
    let fronts : List (List ℕ) = map (λ front. front.now) FRONTS in
    no-field fronts MESSAGES name (by-row (position (λ front. is_field_of front name) fronts) refl)
  where
    by-row : (row : Option ℕ) → position (λ front. is_field_of front name) (map (λ front. front.now) FRONTS) ≡ row
        → position (λ front. is_field_of front name) (map (λ front. front.now) FRONTS) ≡ None
    by-row None f = f
    by-row (Some k) f =
        let low = position-Some (λ front. is_field_of front name) (map (λ front. front.now) FRONTS) k name f in
        absurd (no-row (position (λ front. is_field_of front name) (map (λ front. front.now) FRONTS)) e k f low.0)

or-none : (o p : Option Row) → or_else o p ≡ None → (o ≡ None) × (p ≡ None)
or-none None p e = (refl, e)
or-none (Some v) p e = absurd (none-some v (sym e))

pub no-target : (name : List ℕ) → variable_named name ≡ None → target_of name ≡ NoTarget
unfolding variable_named target_of
no-target name e =
    let n = or-none (plain_named name) (field_named name) e in
    ap (λ (o : Option Variable). plain_or_field o (field_of name)) (no-plain-row name n.0)
    ∙ ap (λ (o : Option (Message × List ℕ)). plain_or_field None o) (no-field-row name n.1)

-- where a variable is set it may be set, and so it is where it is added to
somewhere : (v : Row) (c : Scope) (s : Subroutine) → has c s ≡ true → is_set_somewhere (record v { set = c }) ≡ true
somewhere v scope.Nowhere s h = absurd (false-true h)
somewhere v _ s h = refl

pub is-set : (v : Row) (w : Variable) (s : Subroutine) → IsRow v w → has v.set s ≡ true → is_set w ≡ true
is-set v w s r h = r.set ∙ somewhere v v.set s h

pub nowhere-has : (c : Scope) (s : Subroutine) → is_nowhere c ≡ true → has c s ≡ true → ⊥
nowhere-has scope.Nowhere s e h = false-true h
nowhere-has _ s e h = false-true e

either-true : (a b : Bool) → (a || b) ≡ true → (a ≡ true → ⊥) → b ≡ true
either-true true b e h = absurd (h refl)
either-true false b e h = e

appended-row : (row : Option ℕ) (v : Row) → option_and_then (λ k. slice_get ROWS k) row ≡ Some v → (is_nowhere v.append || is_set_somewhere v) ≡ true
appended-row None v e = absurd (none-some v e)
appended-row (Some k) v e = passes (λ (r : Row). is_nowhere r.append || is_set_somewhere r) ROWS k v refl e

plain-appended : (name : List ℕ) (v : Row) → plain_named name ≡ Some v → (is_nowhere v.append || is_set_somewhere v) ≡ true
unfolding plain_named
plain-appended name v e = appended-row (position (λ known. bytes_eq known.now name) NAMES) v e

pub is-set-too : (name : List ℕ) (v : Row) (w : Variable) (s : Subroutine) → variable_named name ≡ Some v → target_of name ≡ Plain w → IsRow v w → has v.append s ≡ true → is_set w ≡ true
unfolding variable_named target_of
is-set-too name v w s e t r h = by-row (plain_named name) refl e
  where
    no-plain : (o : Option Variable) (f : Option (Message × List ℕ)) → o ≡ None → plain_or_field o f ≡ Plain w → ⊥
    no-plain (Some x) f e t = none-some x (sym e)
    no-plain None (Some f) e t = cc
    no-plain None None e t = cc

    by-row : (p : Option Row) → plain_named name ≡ p → or_else p (field_named name) ≡ Some v → is_set w ≡ true
    by-row (Some x) p-is e =
        let all = plain-appended name v (p-is ∙ e) in
        r.set ∙ either-true (is_nowhere v.append) (is_set_somewhere v) all (λ n. nowhere-has v.append s n h)
    by-row None p-is e = absurd (no-plain (variable_of name) (field_of name) (no-plain-row name p-is) t)

-- a variable reads as a value of its type
time-kind : (o : Option _) → kind_of (time_or_unset o) ≡ kind.Duration
time-kind None = refl
time-kind (Some t) = refl

request-reads : (d : Option Backend) (v : RequestVariable) (r : ClientRequest) → kind_of (request_value d v r) ≡ request_kind v
request-reads d request.Method r = refl
request-reads d request.Url r = refl
request-reads d request.Proto r = refl
request-reads d request.Restarts r = refl
request-reads d request.Ttl r = time-kind r.ttl
request-reads d request.Grace r = time-kind r.grace
request-reads d request.BackendHint r = refl
request-reads d request.HashAlwaysMiss r = refl
request-reads d request.HashIgnoreBusy r = refl
request-reads d request.HashIgnoreVary r = refl
request-reads d request.IsHitmiss r = refl
request-reads d request.IsHitpass r = refl

object-reads : (v : ObjectVariable) (o : CachedObject) → kind_of (object_value v o) ≡ object_kind v
object-reads object.Status o = refl
object-reads object.Reason o = refl
object-reads object.Hits o = refl
object-reads object.Uncacheable o = refl
object-reads object.Ttl o = refl
object-reads object.Age o = refl
object-reads object.Grace o = refl
object-reads object.Keep o = refl

fetch-reads : (d : Option Backend) (v : FetchRequestVariable) (r : FetchRequest) → kind_of (fetch_request_value d v r) ≡ fetch_request_kind v
fetch-reads d fetch.Method r = refl
fetch-reads d fetch.Url r = refl
fetch-reads d fetch.Proto r = refl
fetch-reads d fetch.Backend r = refl
fetch-reads d fetch.Retries r = refl
fetch-reads d fetch.Uncacheable r = refl
fetch-reads d fetch.IsBgfetch r = refl

fetched-reads : (v : FetchResponseVariable) (r : FetchResponse) → kind_of (fetch_response_value v r) ≡ fetch_response_kind v
fetched-reads fetched.Status r = refl
fetched-reads fetched.Reason r = refl
fetched-reads fetched.Proto r = refl
fetched-reads fetched.Ttl r = refl
fetched-reads fetched.Grace r = refl
fetched-reads fetched.Keep r = refl
fetched-reads fetched.Uncacheable r = refl
fetched-reads fetched.Age r = refl
fetched-reads fetched.Was304 r = refl
fetched-reads fetched.Backend r = refl

response-reads : (v : ResponseVariable) (head : ResponseHead) → kind_of (response_value v head) ≡ response_kind v
response-reads response.Status head = refl
response-reads response.Reason head = refl
response-reads response.Proto head = refl

pub reads-as : (d : Option Backend) (w : Variable) (c : Context) → kind_of (value_of d w c) ≡ kind_of_variable w
reads-as d variable.ClientIp c = refl
reads-as d variable.ServerIp c = refl
reads-as d variable.ClientIdentity c = refl
reads-as d (variable.Request v) c = request-reads d v c.request
reads-as d (variable.Object v) c = object-reads v c.object
reads-as d (variable.FetchRequest v) c = fetch-reads d v c.fetch_request
reads-as d (variable.FetchResponse v) c = fetched-reads v c.fetch_response
reads-as d (variable.Response v) c = response-reads v c.response
reads-as d variable.Body c = refl
reads-as d variable.Jar c = refl

-- what is read somewhere is no body
pub not-body : (v : Row) (w : Variable) (s : Subroutine) → IsRow v w → has v.read s ≡ true → is_body w ≡ false
not-body v w s r h = by-scope (is_nowhere v.read) refl
  where
    by-scope : (b : Bool) → is_nowhere v.read ≡ b → is_body w ≡ false
    by-scope false e = r.read ∙ e
    by-scope true e = absurd (nowhere-has v.read s e h)
