-- Lists of operations on a jar, and what the functions of the module answer along them.
use Rattle.std.specs.Prelude.{ℕ, ◌≡◌, ◌<◌, List, [], ◌∷◌, fold, Option, Some, is_some, All}
use Rattle.std.specs.Str.{byte}
use Rattle.vcl_values.specs.declared.value.Value.{Value}
use Rattle.vcl_values.specs.declared.value.Value.TheVariants as value
use Rattle.vmod_host.specs.declared.TheConstants.{PARSE, SET, GET, ISSET, DELETE, KEEP, FILTER, CLEAN, GET_STRING}
use Rattle.vmod_host.specs.Jar.{Cookies, parsed, with_cookie, value_in, without_name, without, only, parts_at, field_of}
use Rattle.vmod_host.specs.JarMeanings.{jar_meaning, text_value}

-- an operation that changes the jar, with its texts
pub data Operation : Type 0 where
  Parse : List ℕ → Operation
  Set : List ℕ → List ℕ → Operation
  Delete : List ℕ → Operation
  Keep : List ℕ → Operation
  Filter : List ℕ → Operation
  Clean : Operation

abbrev pub after : Cookies → Operation → Cookies
after jar (Parse text) = parsed text
after jar (Set name text) = with_cookie jar name text
after jar (Delete name) = without_name jar name
after jar (Keep list) = only jar (parts_at (byte ",") list)
after jar (Filter list) = without jar (parts_at (byte ",") list)
after jar Clean = []

-- the jar after operations, the first one first, from the empty jar on
abbrev pub jar_after : List Operation → Cookies
jar_after operations = fold after [] operations

-- the function of an operation, and its arguments behind the jar
abbrev pub tag_of : Operation → ℕ
tag_of (Parse text) = PARSE
tag_of (Set name text) = SET
tag_of (Delete name) = DELETE
tag_of (Keep list) = KEEP
tag_of (Filter list) = FILTER
tag_of Clean = CLEAN

abbrev pub arguments_of : Operation → List Value
arguments_of (Parse text) = text_value text ∷ []
arguments_of (Set name text) = text_value name ∷ text_value text ∷ []
arguments_of (Delete name) = text_value name ∷ []
arguments_of (Keep list) = text_value list ∷ []
arguments_of (Filter list) = text_value list ∷ []
arguments_of Clean = []

-- the functions of these operations, one after another: what each answers is the next one's jar
abbrev pub Leaves : List ℕ → List Operation → List ℕ → Type 0
Leaves jar [] last = jar ≡ last
Leaves jar (operation ∷ more) last =
    (next : List ℕ)
    × (jar_meaning (tag_of operation) (text_value jar ∷ arguments_of operation) ≡ Some (text_value next))
    × Leaves next more last

-- the texts of an operation are bytes
abbrev pub IsBytes : List ℕ → Type 0
IsBytes text = All (λ byte. byte < 256) text

abbrev pub HasBytes : Operation → Type 0
HasBytes (Parse text) = IsBytes text
HasBytes (Set name text) = IsBytes name × IsBytes text
HasBytes (Delete name) = Unit {0}
HasBytes (Keep list) = Unit {0}
HasBytes (Filter list) = Unit {0}
HasBytes Clean = Unit {0}

-- what is asked of a jar's text is answered as by this jar
pub record Answers (jar : List ℕ) (cookies : Cookies) : Type 0 where
  pub get_string : jar_meaning GET_STRING (text_value jar ∷ []) ≡ Some (text_value (field_of cookies))
  pub get : (name : List ℕ) → jar_meaning GET (text_value jar ∷ text_value name ∷ []) ≡ Some (value.String (value_in cookies name))
  pub isset : (name : List ℕ) → jar_meaning ISSET (text_value jar ∷ text_value name ∷ []) ≡ Some (value.Bool (is_some (value_in cookies name)))
