-- What a set of a variable comes to, with a value that the variable takes.
use Rattle.std.proofs.Common.{◌≡◌, refl, sym, subst, ℕ, ℤ, List, Bool, true, false, not, Option, Some, None, option_map, length, nat_lt, if◌then◌else◌}
use Rattle.std.proofs.lemmas.Option.{none-some}
use Rattle.vcl_values.specs.declared.value.Kind.{Kind}
use Rattle.vcl_values.specs.declared.value.Kind.TheVariants as kind
use Rattle.vcl_values.specs.declared.value.Value.{Value}
use Rattle.vcl_values.specs.declared.value.Value.TheVariants as value
use Rattle.vcl_values.specs.Operators.{text_limit}
use Rattle.vcl_values.specs.Values.{kind_of, text_of}
use Rattle.http_heads.specs.declared.message.RequestHead.{RequestHead}
use Rattle.http_heads.specs.declared.message.ResponseHead.{ResponseHead}
use Rattle.vcl_context.specs.Carried.{is_token, is_target, is_reason, is_status}
use Rattle.vcl_context.specs.Kinds.{request_kind, fetch_request_kind, fetch_response_kind, response_kind, kind_of_variable, is_set_request, is_set_fetch_request, is_set_fetch_response, is_set_response, is_set, fits, accepts}
use Rattle.vcl_context.specs.Setting.{method_set, url_set, reason_set, status_set, request_set, fetch_request_set, fetch_response_set, response_set, variable_set}
use Rattle.vcl_context.specs.declared.context.Context.{Context}
use Rattle.vcl_context.specs.declared.context.ClientRequest.{ClientRequest}
use Rattle.vcl_context.specs.declared.context.FetchRequest.{FetchRequest}
use Rattle.vcl_context.specs.declared.context.FetchResponse.{FetchResponse}
use Rattle.vcl_context.specs.declared.variable.Variable.{Variable}
use Rattle.vcl_context.specs.declared.variable.Variable.TheVariants as variable
use Rattle.vcl_context.specs.declared.variable.RequestVariable.{RequestVariable}
use Rattle.vcl_context.specs.declared.variable.RequestVariable.TheVariants as request
use Rattle.vcl_context.specs.declared.variable.FetchRequestVariable.{FetchRequestVariable}
use Rattle.vcl_context.specs.declared.variable.FetchRequestVariable.TheVariants as fetch
use Rattle.vcl_context.specs.declared.variable.FetchResponseVariable.{FetchResponseVariable}
use Rattle.vcl_context.specs.declared.variable.FetchResponseVariable.TheVariants as fetched
use Rattle.vcl_context.specs.declared.variable.ResponseVariable.{ResponseVariable}
use Rattle.vcl_context.specs.declared.variable.ResponseVariable.TheVariants as response
use Rattle.vcl_context.specs.Reading.{value_of as variable_value}
use Rattle.vcl_check.specs.declared.seen.Sort.TheVariants as sort
use Rattle.vcl_check.specs.Kinds.{accepts as takes_sort}
use Rattle.vcl_operands.specs.Values.{fitted}
use Rattle.vcl_eval.specs.Statements.{then_due, set_if, set_fitted, set_to, field_to, appended, append_to, append_field}
use Rattle.vcl_context.specs.Fields.{field_value, field_set as set_field}
use Rattle.vcl_context.specs.declared.variable.Message.{Message}
use Rattle.vcl_soundness.proofs.Rows.{false-true}
use Rattle.vcl_soundness.specs.Laws.{is_refused}
use Rattle.vcl_soundness.proofs.Holds.{IsOf, IsDue, Makes, known-makes}
use Rattle.vcl_soundness.proofs.Values.{int-is, duration-is, text-of, string-fitted, fitted-makes}

-- values by their types
by-int : (P : Value → Type 0) (v : Value) → kind_of v ≡ kind.Int → ((n : ℤ) → P (value.Int n)) → P v
by-int P v e h = let i = int-is v e in subst P (sym i.1) (h i.0)

by-duration : (P : Value → Type 0) (v : Value) → kind_of v ≡ kind.Duration → ((n : ℤ) → P (value.Duration n)) → P v
by-duration P v e h = let i = duration-is v e in subst P (sym i.1) (h i.0)

by-truth : (P : Value → Type 0) (v : Value) → kind_of v ≡ kind.Bool → ((b : Bool) → P (value.Bool b)) → P v
by-truth P (value.Bool b) e h = h b
by-truth P (value.String t) e h = absurd (cc)
by-truth P (value.Int t) e h = absurd (cc)
by-truth P (value.Duration b) e h = absurd (cc)
by-truth P (value.Ip a) e h = absurd (cc)
by-truth P (value.Backend b) e h = absurd (cc)

by-backend : (P : Value → Type 0) (v : Value) → kind_of v ≡ kind.Backend → ((b : _) → P (value.Backend b)) → P v
by-backend P (value.Backend b) e h = h b
by-backend P (value.String t) e h = absurd (cc)
by-backend P (value.Int t) e h = absurd (cc)
by-backend P (value.Duration b) e h = absurd (cc)
by-backend P (value.Ip a) e h = absurd (cc)
by-backend P (value.Bool b) e h = absurd (cc)

-- where a part of a head isn't set, its line can't carry it
some-none : {A : Type 0} (x : A) → Some x ≡ None → ⊥
some-none x e = none-some x (sym e)

map-none : {A B : Type 0} (f : A → B) (o : Option A) → option_map f o ≡ None → o ≡ None
map-none f None e = refl
map-none f (Some a) e = absurd (some-none (f a) e)

refused-if : {A : Type 0} (b : Bool) (x : A) → (if b then Some x else None) ≡ None → not b ≡ true
refused-if true x e = absurd (some-none x e)
refused-if false x e = refl

refused-unless : {A : Type 0} (b : Bool) (x : A) → (if b then None else Some x) ≡ None → b ≡ true
refused-unless true x e = refl
refused-unless false x e = absurd (some-none x e)

method-refused : (v : Value) (head : RequestHead) → method_set v head ≡ None → not (is_token (text_of v)) ≡ true
method-refused v head e = refused-if (is_token (text_of v)) _ e

url-refused : (v : Value) (head : RequestHead) → url_set v head ≡ None → not (is_target (text_of v)) ≡ true
url-refused v head e = refused-if (is_target (text_of v)) _ e

reason-refused : (v : Value) (head : ResponseHead) → reason_set v head ≡ None → not (is_reason (text_of v)) ≡ true
reason-refused v head e = refused-if (is_reason (text_of v)) _ e

status-refused : (n : ℤ) (head : ResponseHead) → status_set (value.Int n) head ≡ None → not (is_status n) ≡ true
status-refused n head e = refused-if (is_status n) _ e

request-refused : (w : RequestVariable) (v : Value) (r : ClientRequest) → kind_of v ≡ request_kind w → is_set_request w ≡ true → request_set w v r ≡ None → is_refused (variable.Request w) v ≡ true
request-refused request.Method v r k s e = method-refused v r.head (map-none _ (method_set v r.head) e)
request-refused request.Url v r k s e = url-refused v r.head (map-none _ (url_set v r.head) e)
request-refused request.Ttl v r k s e =
    by-duration (λ x. request_set request.Ttl x r ≡ None → is_refused (variable.Request request.Ttl) x ≡ true) v k (λ n e. absurd (some-none _ e)) e
request-refused request.Grace v r k s e =
    by-duration (λ x. request_set request.Grace x r ≡ None → is_refused (variable.Request request.Grace) x ≡ true) v k (λ n e. absurd (some-none _ e)) e
request-refused request.BackendHint v r k s e =
    by-backend (λ x. request_set request.BackendHint x r ≡ None → is_refused (variable.Request request.BackendHint) x ≡ true) v k (λ n e. absurd (some-none _ e)) e
request-refused request.HashAlwaysMiss v r k s e =
    by-truth (λ x. request_set request.HashAlwaysMiss x r ≡ None → is_refused (variable.Request request.HashAlwaysMiss) x ≡ true) v k (λ n e. absurd (some-none _ e)) e
request-refused request.HashIgnoreBusy v r k s e =
    by-truth (λ x. request_set request.HashIgnoreBusy x r ≡ None → is_refused (variable.Request request.HashIgnoreBusy) x ≡ true) v k (λ n e. absurd (some-none _ e)) e
request-refused request.HashIgnoreVary v r k s e =
    by-truth (λ x. request_set request.HashIgnoreVary x r ≡ None → is_refused (variable.Request request.HashIgnoreVary) x ≡ true) v k (λ n e. absurd (some-none _ e)) e
request-refused request.Proto v r k s e = absurd (false-true s)
request-refused request.Restarts v r k s e = absurd (false-true s)
request-refused request.IsHitmiss v r k s e = absurd (false-true s)
request-refused request.IsHitpass v r k s e = absurd (false-true s)

fetch-refused : (w : FetchRequestVariable) (v : Value) (r : FetchRequest) → kind_of v ≡ fetch_request_kind w → is_set_fetch_request w ≡ true → fetch_request_set w v r ≡ None
    → is_refused (variable.FetchRequest w) v ≡ true
fetch-refused fetch.Method v r k s e = method-refused v r.head (map-none _ (method_set v r.head) e)
fetch-refused fetch.Url v r k s e = url-refused v r.head (map-none _ (url_set v r.head) e)
fetch-refused fetch.Backend v r k s e =
    by-backend (λ x. fetch_request_set fetch.Backend x r ≡ None → is_refused (variable.FetchRequest fetch.Backend) x ≡ true) v k (λ n e. absurd (some-none _ e)) e
fetch-refused _ v r k s e = absurd (false-true s)

fetched-refused : (w : FetchResponseVariable) (v : Value) (r : FetchResponse) → kind_of v ≡ fetch_response_kind w → is_set_fetch_response w ≡ true → fetch_response_set w v r ≡ None
    → is_refused (variable.FetchResponse w) v ≡ true
fetched-refused fetched.Status v r k s e =
    by-int (λ x. fetch_response_set fetched.Status x r ≡ None → is_refused (variable.FetchResponse fetched.Status) x ≡ true) v k
    (λ n e. status-refused n r.head (map-none _ (status_set (value.Int n) r.head) e)) e
fetched-refused fetched.Reason v r k s e = reason-refused v r.head (map-none _ (reason_set v r.head) e)
fetched-refused fetched.Ttl v r k s e =
    by-duration (λ x. fetch_response_set fetched.Ttl x r ≡ None → is_refused (variable.FetchResponse fetched.Ttl) x ≡ true) v k (λ n e. absurd (some-none _ e)) e
fetched-refused fetched.Grace v r k s e =
    by-duration (λ x. fetch_response_set fetched.Grace x r ≡ None → is_refused (variable.FetchResponse fetched.Grace) x ≡ true) v k (λ n e. absurd (some-none _ e)) e
fetched-refused fetched.Keep v r k s e =
    by-duration (λ x. fetch_response_set fetched.Keep x r ≡ None → is_refused (variable.FetchResponse fetched.Keep) x ≡ true) v k (λ n e. absurd (some-none _ e)) e
fetched-refused fetched.Uncacheable v r k s e =
    by-truth (λ x. fetch_response_set fetched.Uncacheable x r ≡ None → is_refused (variable.FetchResponse fetched.Uncacheable) x ≡ true) v k (λ n e. absurd (some-none _ e)) e
fetched-refused fetched.Proto v r k s e = absurd (false-true s)
fetched-refused fetched.Age v r k s e = absurd (false-true s)
fetched-refused fetched.Was304 v r k s e = absurd (false-true s)
fetched-refused fetched.Backend v r k s e = absurd (false-true s)

response-refused : (w : ResponseVariable) (v : Value) (head : ResponseHead) → kind_of v ≡ response_kind w → is_set_response w ≡ true → response_set w v head ≡ None
    → is_refused (variable.Response w) v ≡ true
response-refused response.Status v head k s e =
    by-int (λ x. response_set response.Status x head ≡ None → is_refused (variable.Response response.Status) x ≡ true) v k (λ n e. status-refused n head e) e
response-refused response.Reason v head k s e = reason-refused v head e
response-refused response.Proto v head k s e = absurd (false-true s)

variable-refused : (w : Variable) (v : Value) (c : Context) → kind_of v ≡ kind_of_variable w → is_set w ≡ true → variable_set w v c ≡ None → is_refused w v ≡ true
variable-refused variable.ClientIp v c k s e = absurd (false-true s)
variable-refused variable.ServerIp v c k s e = absurd (false-true s)
variable-refused variable.ClientIdentity v c k s e = absurd (some-none _ e)
variable-refused (variable.Request w) v c k s e = request-refused w v c.request k s (map-none _ (request_set w v c.request) e)
variable-refused (variable.Object w) v c k s e = absurd (false-true s)
variable-refused (variable.FetchRequest w) v c k s e = fetch-refused w v c.fetch_request k s (map-none _ (fetch_request_set w v c.fetch_request) e)
variable-refused (variable.FetchResponse w) v c k s e = fetched-refused w v c.fetch_response k s (map-none _ (fetch_response_set w v c.fetch_response) e)
variable-refused (variable.Response w) v c k s e = response-refused w v c.response k s (map-none _ (response_set w v c.response) e)
variable-refused variable.Body v c k s e = absurd (some-none _ e)
variable-refused variable.Jar v c k s e = refused-unless (nat_lt text_limit (length (text_of v))) _ e

fits-itself : (k : Kind) → fits k k ≡ true
fits-itself kind.String = refl
fits-itself kind.Int = refl
fits-itself kind.Duration = refl
fits-itself kind.Bool = refl
fits-itself kind.Ip = refl
fits-itself kind.Backend = refl

accepts-own : (w : Variable) (k : Kind) → k ≡ kind_of_variable w → is_set w ≡ true → accepts w k ≡ true
accepts-own w k e s =
    let fit : fits (kind_of_variable w) k ≡ true = subst (λ (x : Kind). fits (kind_of_variable w) x ≡ true) (sym e) (fits-itself (kind_of_variable w)) in
    rw (s) fit

-- where a variable takes a value of its type, only the value is refused
pub refused-alone : (w : Variable) (v : Value) (c : Context) → is_set w ≡ true → kind_of v ≡ kind_of_variable w → variable_set w v c ≡ None → is_refused w v ≡ true
refused-alone w v c s k e = variable-refused w v c k s e

fitted-set : (w : Variable) → is_set w ≡ true → (v : Value) → kind_of v ≡ kind_of_variable w → (c : Context) → IsDue (set_fitted w c v)
fitted-set w h v k c = subst (λ (b : Bool). IsDue (set_if b w v c)) (sym (accepts-own w (kind_of v) k h)) tt

-- what is made of a value, and what is set then
then-there : (P : Value → Type 0) (f : Value → Option (Option Context)) (o : Option (Option Value)) → Makes P o → ((v : Value) → P v → IsDue (f v)) → IsDue (then_due f o)
then-there P f (Some (Some v)) h k = k v h
then-there P f (Some None) h k = tt
then-there P f None h k = h

pub variable-set : (w : Variable) → is_set w ≡ true → (k : Kind) → takes_sort (kind_of_variable w) (sort.Value (Some k)) ≡ true → (v : Value) → IsOf k v → (c : Context) → IsDue (set_to w v c)
variable-set w h k a v e c =
    then-there (IsOf (kind_of_variable w)) (set_fitted w c) (fitted (kind_of_variable w) v) (fitted-makes (kind_of_variable w) k v e a) (λ x p. fitted-set w h x p c)

text-accepted : (k : Kind) → k ≡ kind.String → takes_sort k (sort.Value (Some kind.String)) ≡ true
text-accepted k e = subst (λ (x : Kind). takes_sort x (sort.Value (Some kind.String)) ≡ true) (sym e) refl

pub variable-appended : (w : Variable) → is_set w ≡ true → kind_of_variable w ≡ kind.String → (v : Value) (c : Context) → IsDue (append_to w v c)
variable-appended w h t v c =
    let due = appended (variable_value None w c) v in
    then-there (IsOf kind.String) (λ x. set_to w x c) (Some due) (known-makes (IsOf kind.String) due (λ x e. text-of _ x e))
    (λ x p. variable-set w h kind.String (text-accepted (kind_of_variable w) t) x p c)

-- a field takes each value
pub field-set : (message : Message) (name : List ℕ) (v : Value) (c : Context) → IsDue (field_to message name v c)
field-set message name v c = then-there (IsOf kind.String) (λ w. Some (set_field message name w c)) (fitted kind.String v) (string-fitted v) (λ w p. tt)

pub field-appended : (message : Message) (name : List ℕ) (v : Value) (c : Context) → IsDue (append_field message name v c)
field-appended message name v c =
    let due = appended (field_value message name c) v in
    then-there (IsOf kind.String) (λ w. field_to message name w c) (Some due) (known-makes (IsOf kind.String) due (λ x e. text-of _ x e)) (λ w p. field-set message name w c)
