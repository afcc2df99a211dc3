-- The fields that a ban may name (vcl(7), "Bans"; varnish-cli(7), "ban").
use Rattle.std.specs.Prelude.{ℕ, Bool, ◌&&◌, nat_lt, List, [], ◌∷◌, take, drop, length, codes, Option, Some, None, if◌then◌else◌}
use Rattle.std.specs.Map.{lookup}
use Rattle.std.specs.Option.{option_or}
use Rattle.std.specs.Str.{bytes_eq}
use Rattle.cache_law.specs.declared.ban.TextField.{TextField}
use Rattle.cache_law.specs.declared.ban.TextField.TheVariants as field
use Rattle.cache_law.specs.declared.ban.TimeField.TheVariants.{Ttl, Age, Grace, Keep}
use Rattle.ban_expr.specs.declared.subjects.Subject.{Subject}
use Rattle.ban_expr.specs.declared.subjects.Subject.TheVariants.{OfText, OfTime}
use Rattle.ban_expr.specs.declared.subjects.TextSubject.{TextSubject}
use Rattle.ban_expr.specs.declared.subjects.TextSubject.TheVariants.{RequestUrl, RequestHeader, ObjectStatus, ObjectHeader}

-- the fields whose words are fixed
abbrev pub subjects : List (List ℕ × Subject)
subjects =
    (codes "req.url", OfText RequestUrl)
    ∷ (codes "obj.status", OfText ObjectStatus)
    ∷ (codes "obj.ttl", OfTime Ttl)
    ∷ (codes "obj.age", OfTime Age)
    ∷ (codes "obj.grace", OfTime Grace)
    ∷ (codes "obj.keep", OfTime Keep)
    ∷ []

abbrev pub fixed_of : List ℕ → Option Subject
fixed_of word = lookup (bytes_eq word) subjects

-- the word is the front with a name behind it
abbrev pub is_header : List ℕ → List ℕ → Bool
is_header front word = nat_lt (length front) (length word) && bytes_eq (take (length front) word) front

-- the headers of a request and of an object, by the fronts of their words
abbrev pub header_of : List ℕ → Option Subject
header_of word =
    if is_header (codes "req.http.") word then Some (OfText RequestHeader)
    else if is_header (codes "obj.http.") word then Some (OfText ObjectHeader)
    else None

-- what a word names
unfoldable pub subject_of : List ℕ → Option Subject
subject_of word = option_or (fixed_of word) (header_of word)

-- the field that is named, with what stands behind the front as a header's name
abbrev pub text_field : TextSubject → List ℕ → TextField
text_field RequestUrl word = field.RequestUrl
text_field RequestHeader word = field.RequestHeader (drop 9 word)
text_field ObjectStatus word = field.ObjectStatus
text_field ObjectHeader word = field.ObjectHeader (drop 9 word)
