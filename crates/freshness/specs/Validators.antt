-- Whether a response that a client has is still the response (RFC 9110, section 13.1).
use Rattle.std.specs.Prelude.{ℕ, Bool, false, not, ◌&&◌, ◌||◌, ◌==◌, nat_lt, nat_le, List, [], ◌∷◌, Option, Some, is_some, take, drop, codes, if◌then◌else◌}
use Rattle.std.specs.List.{list_any, onto_first}
use Rattle.std.specs.Option.{option_map_or}
use Rattle.std.specs.Str.{bytes_eq}
use Rattle.units.specs.Signs.{quote_mark}
use Rattle.units.specs.Blanks.{trimmed}
use Rattle.http_heads.specs.declared.fields.Field.{Field}
use Rattle.http_heads.specs.Fields.{is_named, first_value, count_of}
use Rattle.freshness.specs.Directives.{is_comma}
use Rattle.freshness.specs.Timing.{date}

-- whether a byte stands within quotes, by whether the one before it did
abbrev pub is_quoted_behind : Bool → ℕ → Bool
is_quoted_behind quoted byte = if byte == quote_mark then not quoted else quoted

-- the parts of a list between the commas that stand outside quotes; `quoted` says whether it begins within them
abbrev pub parts : Bool → List ℕ → List (List ℕ)
parts quoted [] = [] ∷ []
parts quoted (byte ∷ more) =
    if is_comma byte && not quoted then [] ∷ parts false more else onto_first byte (parts (is_quoted_behind quoted byte) more)

-- an entity tag without the mark of a weak one (RFC 9110, section 8.8.3.2)
abbrev pub opaque_tag : List ℕ → List ℕ
opaque_tag tag = if bytes_eq (take 2 tag) (codes "W/") then drop 2 tag else tag

-- two tags are equal in the weak comparison; nothing at all is no tag
abbrev pub is_same_tag : List ℕ → List ℕ → Bool
is_same_tag tag part = not (bytes_eq part []) && bytes_eq (opaque_tag tag) (opaque_tag part)

-- the list has the tag
abbrev pub lists : List ℕ → List ℕ → Bool
lists tag list = list_any (λ part. is_same_tag tag (trimmed part)) (parts false list)

-- the value of an If-None-Match field names the response: it is `*`, or lists its tag
abbrev pub names : Option (List ℕ) → List ℕ → Bool
names tag value = bytes_eq (trimmed value) (codes "*") || option_map_or (λ tag. lists tag value) tag false

-- the second is there, and not later than the first
abbrev pub is_not_later : Option ℕ → Option ℕ → Bool
is_not_later (Some since) (Some changed) = nat_le changed since
is_not_later since changed = false

-- the client's response is unchanged: by If-None-Match where the request has it, else by If-Modified-Since
abbrev pub is_unchanged : List Field → List Field → Bool
is_unchanged request response =
    if nat_lt 0 (count_of (codes "if-none-match") request)
    then list_any (λ field. is_named (codes "if-none-match") field && names (first_value (codes "etag") response) field.value) request
    else is_not_later (date (codes "if-modified-since") request) (date (codes "last-modified") response)

-- the response can be asked for again with a condition
abbrev pub has_validator : ℕ → List Field → Bool
has_validator status fields =
    status == 200 && (is_some (first_value (codes "etag") fields) || is_some (first_value (codes "last-modified") fields))
