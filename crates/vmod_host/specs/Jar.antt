-- A jar of cookies: names with their values, in order, no name twice (Varnish, vmod_cookie).
use Rattle.std.specs.Prelude.{ℕ, ◌+◌, Bool, ◌==◌, not, List, [], ◌∷◌, ◌++◌, take, drop, map, filter, fold, position, Option, codes}
use Rattle.std.specs.List.{slice_split, list_any, join_by}
use Rattle.std.specs.Option.{option_map_or}
use Rattle.std.specs.Map.{lookup}
use Rattle.std.specs.Str.{bytes_eq, byte}
use Rattle.indexmap.specs.IndexMap.{insert_entry}
use Rattle.units.specs.Blanks.{trimmed}

abbrev pub Cookies : Type 0
Cookies = List (List ℕ × List ℕ)

-- set: a name that is there keeps its place and gets the value, another goes last; the empty name changes nothing
abbrev pub with_cookie : Cookies → List ℕ → List ℕ → Cookies
with_cookie jar [] value = jar
with_cookie jar (first ∷ more) value = insert_entry bytes_eq jar (first ∷ more) value

-- get: the value of a name that is there
abbrev pub value_in : Cookies → List ℕ → Option (List ℕ)
value_in jar name = lookup (bytes_eq name) jar

abbrev pub is_equals : ℕ → Bool
is_equals sign = sign == byte "="

-- a part of a text with `=` sets what stands before and after the first one; another part is passed over
abbrev pub with_part : Cookies → List ℕ → Cookies
with_part jar part =
    option_map_or (λ place. with_cookie jar (take place part) (drop (place + 1) part)) (position is_equals part) jar

-- the parts of a text that this sign splits, without the blanks round each
abbrev pub parts_at : ℕ → List ℕ → List (List ℕ)
parts_at sign text = map trimmed (slice_split (λ other. other == sign) text)

-- parse: the parts between semicolons, one after another, from the empty jar on
abbrev pub parsed : List ℕ → Cookies
parsed text = fold with_part [] (parts_at (byte ";") text)

abbrev pub is_among : List (List ℕ) → List ℕ → Bool
is_among names name = list_any (bytes_eq name) names

-- delete: the name goes
abbrev pub without_name : Cookies → List ℕ → Cookies
without_name jar name = filter (λ cookie. not (bytes_eq cookie.0 name)) jar

-- keep and filter: the cookies of these names stay alone, or go
abbrev pub only : Cookies → List (List ℕ) → Cookies
only jar names = filter (λ cookie. is_among names cookie.0) jar

abbrev pub without : Cookies → List (List ℕ) → Cookies
without jar names = filter (λ cookie. not (is_among names cookie.0)) jar

-- get_string: each name with its value, as a Cookie field has them (RFC 6265, section 4.2.1)
abbrev pub field_of : Cookies → List ℕ
field_of jar = join_by (λ cookie. cookie.0 ++ byte "=" ∷ cookie.1) (codes "; ") jar
