-- What the functions of the module `cookie` mean, by their tags (Varnish, vmod_cookie). The first argument of each is the
-- jar, as a text; an absent text counts as the empty one.
use Rattle.std.specs.Prelude.{ℕ, ◌==◌, List, [], ◌∷◌, Option, Some, None, is_some, if◌then◌else◌}
use Rattle.std.specs.Str.{byte}
use Rattle.vcl_values.specs.declared.value.Value.{Value}
use Rattle.vcl_values.specs.declared.value.Value.TheVariants as value
use Rattle.vcl_values.specs.Values.{text_of}
use Rattle.vmod_host.specs.declared.TheConstants.{PARSE, SET, GET, ISSET, DELETE, KEEP, FILTER, CLEAN, GET_STRING}
use Rattle.vmod_host.specs.Jar.{Cookies, parsed, with_cookie, value_in, without_name, without, only, parts_at, field_of}
use Rattle.vmod_host.specs.JarText.{written, jar_of}

-- a text as a value, and a jar as one
abbrev pub text_value : List ℕ → Value
text_value text = value.String (Some text)

abbrev pub jar_value : Cookies → Value
jar_value jar = text_value (written jar)

-- the jar that a STRING stands for
abbrev pub jar_in : Option (List ℕ) → Cookies
jar_in text = jar_of (text_of (value.String text))

-- a function of the jar alone, of the jar and a text, and of the jar and two texts
abbrev pub of_jar : (Cookies → Value) → List Value → Option Value
of_jar answer (value.String jar ∷ []) = Some (answer (jar_in jar))
of_jar answer other = None

abbrev pub of_text : (Cookies → List ℕ → Value) → List Value → Option Value
of_text answer (value.String jar ∷ value.String text ∷ []) = Some (answer (jar_in jar) (text_of (value.String text)))
of_text answer other = None

abbrev pub of_texts : (Cookies → List ℕ → List ℕ → Value) → List Value → Option Value
of_texts answer (value.String jar ∷ value.String name ∷ value.String text ∷ []) =
    Some (answer (jar_in jar) (text_of (value.String name)) (text_of (value.String text)))
of_texts answer other = None

-- what the function of a tag answers on these arguments; of one that changes the jar it is the new one's text
abbrev pub jar_meaning : ℕ → List Value → Option Value
jar_meaning tag arguments =
    if tag == PARSE then of_text (λ jar text. jar_value (parsed text)) arguments
    else (if tag == SET then of_texts (λ jar name text. jar_value (with_cookie jar name text)) arguments
    else (if tag == GET then of_text (λ jar name. value.String (value_in jar name)) arguments
    else (if tag == ISSET then of_text (λ jar name. value.Bool (is_some (value_in jar name))) arguments
    else (if tag == DELETE then of_text (λ jar name. jar_value (without_name jar name)) arguments
    else (if tag == KEEP then of_text (λ jar list. jar_value (only jar (parts_at (byte ",") list))) arguments
    else (if tag == FILTER then of_text (λ jar list. jar_value (without jar (parts_at (byte ",") list))) arguments
    else (if tag == CLEAN then of_jar (λ jar. jar_value []) arguments
    else (if tag == GET_STRING then of_jar (λ jar. text_value (field_of jar)) arguments
    else None))))))))
