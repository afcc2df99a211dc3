-- No run of a sound text comes to what no sound text has.
use Rattle.std.specs.Prelude.{ℕ, ◌≡◌, ◌≤◌, ◌⊎◌, Bool, true, false, not, nat_lt, List, [], ◌∷◌, map, length, slice_get, Some, None}
use Rattle.vcl_tree.specs.declared.item.Tree.{Tree}
use Rattle.vcl_values.specs.declared.value.Kind.{Kind}
use Rattle.vcl_values.specs.declared.value.Kind.TheVariants as kind
use Rattle.vcl_values.specs.declared.value.Value.{Value}
use Rattle.vcl_values.specs.declared.value.Value.TheVariants as value
use Rattle.vcl_values.specs.Values.{kind_of, text_of}
use Rattle.vcl_values.specs.Operators.{text_limit}
use Rattle.vmod_host.specs.declared.TheConstants.{TOLOWER, TOUPPER, INTEGER, STRLEN, PARSE, SET, GET, ISSET, DELETE, KEEP, FILTER, CLEAN, GET_STRING}
use Rattle.vmod_host.specs.declared.signature.JarUse.{JarUse}
use Rattle.vmod_host.specs.declared.signature.JarUse.TheVariants as jar
use Rattle.vmod_host.specs.Meanings.{IsMeaning}
use Rattle.vmod_host.specs.declared.signature.Stored.{Stored}
use Rattle.vmod_host.specs.Stored.{passed}
use Rattle.vcl_context.specs.Carried.{is_token, is_target, is_reason, is_status}
use Rattle.vcl_context.specs.Kinds.{kind_of_variable, is_set}
use Rattle.vcl_context.specs.Setting.{variable_set}
use Rattle.vcl_context.specs.declared.context.Context.{Context}
use Rattle.vcl_context.specs.declared.variable.FetchRequestVariable.TheVariants as fetch
use Rattle.vcl_context.specs.declared.variable.FetchResponseVariable.TheVariants as fetched
use Rattle.vcl_context.specs.declared.variable.RequestVariable.TheVariants as request
use Rattle.vcl_context.specs.declared.variable.ResponseVariable.TheVariants as response
use Rattle.vcl_context.specs.declared.variable.Variable.{Variable}
use Rattle.vcl_context.specs.declared.variable.Variable.TheVariants as variable
use Rattle.vcl_check.specs.Texts.{IsSound}
use Rattle.vcl_store.specs.Joined.{IsJoined}
use Rattle.vcl_meaning.specs.Meaning.{NeverStuck}

-- what is passed to a function that has to do with the jar begins with a text
abbrev pub BeginsWithJar : JarUse → List Kind → Type 0
BeginsWithJar jar.None takes = Unit {0}
BeginsWithJar jar.Asks takes = (written : List Kind) × (takes ≡ kind.String ∷ written)
BeginsWithJar jar.Changes takes = (written : List Kind) × (takes ≡ kind.String ∷ written)

-- Each stored function takes three values at most, the jar's text among them, and has a meaning of the type that it gives on all values of
-- the types that it takes.
abbrev pub AreMeant : List Stored → Type 0
AreMeant stored =
    (k : ℕ) (entry : Stored) → slice_get stored k ≡ Some entry
    → (length entry.signature.takes ≤ 3)
    × ((arguments : List Value) → map kind_of arguments ≡ entry.signature.takes → (answer : Value) × IsMeaning entry.tag entry.signature.gives arguments answer)
    × BeginsWithJar entry.signature.jar entry.signature.takes

-- a stored function of this tag, whose calls write values of these types, which gives one of this type, and which has this to do with the jar
pub record IsRow (number : ℕ) (use_of_jar : JarUse) (wanted : List Kind) (given : Kind) (entry : Stored) : Type 0 where
  pub tag : entry.tag ≡ number
  pub jar : entry.signature.jar ≡ use_of_jar
  pub takes : entry.signature.takes ≡ passed use_of_jar wanted
  pub gives : entry.signature.gives ≡ given

-- one of the functions of the module `std`
abbrev pub IsOfStd : Stored → Type 0
IsOfStd entry =
    IsRow TOLOWER jar.None (kind.String ∷ []) kind.String entry
    ⊎ (IsRow TOUPPER jar.None (kind.String ∷ []) kind.String entry
    ⊎ (IsRow INTEGER jar.None (kind.String ∷ kind.Int ∷ []) kind.Int entry
    ⊎ IsRow STRLEN jar.None (kind.String ∷ []) kind.Int entry))

-- one of the functions of the module `cookie`
abbrev pub IsOfCookie : Stored → Type 0
IsOfCookie entry =
    IsRow PARSE jar.Changes (kind.String ∷ []) kind.String entry
    ⊎ (IsRow SET jar.Changes (kind.String ∷ kind.String ∷ []) kind.String entry
    ⊎ (IsRow GET jar.Asks (kind.String ∷ []) kind.String entry
    ⊎ (IsRow ISSET jar.Asks (kind.String ∷ []) kind.Bool entry
    ⊎ (IsRow DELETE jar.Changes (kind.String ∷ []) kind.String entry
    ⊎ (IsRow KEEP jar.Changes (kind.String ∷ []) kind.String entry
    ⊎ (IsRow FILTER jar.Changes (kind.String ∷ []) kind.String entry
    ⊎ (IsRow CLEAN jar.Changes [] kind.String entry
    ⊎ IsRow GET_STRING jar.Asks [] kind.String entry)))))))

abbrev pub IsStandard : Stored → Type 0
IsStandard entry = IsOfStd entry ⊎ IsOfCookie entry

-- These have meanings.
abbrev pub StandardAreMeant : Type 0
StandardAreMeant = (stored : List Stored) → ((k : ℕ) (entry : Stored) → slice_get stored k ≡ Some entry → IsStandard entry) → AreMeant stored

-- No run of a sound text gets stuck, but for one of vcl_init, whose objects are made as the text is numbered.
abbrev pub NoRunStuck : Type 0
NoRunStuck =
    (text : List ℕ) (joined : Tree) (stored : List Stored) → ∥ IsJoined text joined ∥₁ → ∥ IsSound joined.items stored ∥₁ → AreMeant stored → NeverStuck joined.items stored

-- what the line of a head can't carry (RFC 9110, RFC 9112), and a jar's text over the limit of texts
abbrev pub is_refused : Variable → Value → Bool
is_refused (variable.Request request.Method) v = not (is_token (text_of v))
is_refused (variable.Request request.Url) v = not (is_target (text_of v))
is_refused (variable.FetchRequest fetch.Method) v = not (is_token (text_of v))
is_refused (variable.FetchRequest fetch.Url) v = not (is_target (text_of v))
is_refused (variable.FetchResponse fetched.Status) (value.Int n) = not (is_status n)
is_refused (variable.FetchResponse fetched.Reason) v = not (is_reason (text_of v))
is_refused (variable.Response response.Status) (value.Int n) = not (is_status n)
is_refused (variable.Response response.Reason) v = not (is_reason (text_of v))
is_refused variable.Jar v = nat_lt text_limit (length (text_of v))
is_refused _ v = false

-- Where a variable that is set takes a value of its type, `set` ends the run as `fail` for such a value alone.
abbrev pub RefusedAlone : Type 0
RefusedAlone =
    (w : Variable) (v : Value) (c : Context) → is_set w ≡ true → kind_of v ≡ kind_of_variable w → variable_set w v c ≡ None → is_refused w v ≡ true
