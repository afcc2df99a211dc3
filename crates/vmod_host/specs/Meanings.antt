-- What stored functions mean, by their tags (Varnish, vmod_std, vmod_cookie). An absent text counts as the empty one.
use Rattle.std.specs.Prelude.{ℕ, pos, ◌≡◌, ◌==◌, List, [], ◌∷◌, map, length, Option, Some, None, if◌then◌else◌}
use Rattle.std.specs.Option.{unwrap_or}
use Rattle.std.specs.Char.{to_ascii_lowercase, to_ascii_uppercase}
use Rattle.vcl_values.specs.declared.value.Value.{Value}
use Rattle.vcl_values.specs.declared.value.Value.TheVariants as value
use Rattle.vcl_values.specs.declared.value.Kind.{Kind}
use Rattle.vcl_values.specs.Values.{kind_of, text_of}
use Rattle.vmod_host.specs.declared.TheConstants.{TOLOWER, TOUPPER, INTEGER, STRLEN}
use Rattle.vmod_host.specs.JarMeanings.{jar_meaning}
use Rattle.vmod_host.specs.Integers.{integer_of}

-- tolower(STRING), toupper(STRING): ASCII letters in the other case, and all other bytes as they are
abbrev pub recased : (ℕ → ℕ) → List Value → Option Value
recased change (value.String text ∷ []) = Some (value.String (Some (map change (text_of (value.String text)))))
recased change other = None

-- integer(STRING, INT): the text as a whole number, or the second where it is none
abbrev pub read_integer : List Value → Option Value
read_integer (value.String text ∷ value.Int fallback ∷ []) = Some (value.Int (unwrap_or (integer_of (text_of (value.String text))) fallback))
read_integer other = None

-- strlen(STRING): how many bytes the text has
abbrev pub byte_count : List Value → Option Value
byte_count (value.String text ∷ []) = Some (value.Int (pos (length (text_of (value.String text)))))
byte_count other = None

-- what the function of a tag answers on these arguments, where the tag and the arguments have a meaning; tags from 5 on are those
-- of a jar's functions
abbrev pub meaning : ℕ → List Value → Option Value
meaning tag arguments =
    if tag == TOLOWER then recased to_ascii_lowercase arguments
    else (if tag == TOUPPER then recased to_ascii_uppercase arguments
    else (if tag == INTEGER then read_integer arguments
    else (if tag == STRLEN then byte_count arguments
    else jar_meaning tag arguments)))

-- the value is the meaning of the tag on these arguments, and of this type
pub record IsMeaning (tag : ℕ) (gives : Kind) (arguments : List Value) (answer : Value) : Type 0 where
  pub means : meaning tag arguments ≡ Some answer
  pub kind : kind_of answer ≡ gives
