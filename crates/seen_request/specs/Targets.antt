-- The target of a request in absolute form (RFC 9112, section 3.2.2; RFC 3986, sections 3.1 and 3.2).
use Rattle.std.specs.Prelude.{ℕ, Bool, false, ◌||◌, ◌==◌, List, [], ◌∷◌, length, take, drop, codes, Option, Some, None, if◌then◌else◌}
use Rattle.std.specs.List.{position_or_len}
use Rattle.std.specs.Str.{bytes_eq}
use Rattle.units.specs.Folding.{folded}

-- what stands behind this front, where the text begins so; the case of ASCII letters isn't regarded
abbrev pub behind_front : List ℕ → List ℕ → Option (List ℕ)
behind_front front text = if bytes_eq (folded front) (folded (take (length front) text)) then Some (drop (length front) text) else None

abbrev pub first_of : Option (List ℕ) → Option (List ℕ) → Option (List ℕ)
first_of (Some rest) other = Some rest
first_of None other = other

-- what stands behind the scheme of an absolute target, which is http or https
abbrev pub behind_scheme : List ℕ → Option (List ℕ)
behind_scheme target = first_of (behind_front (codes "http://") target) (behind_front (codes "https://") target)

-- a slash or a question mark
abbrev pub ends_authority : ℕ → Bool
ends_authority byte = byte == 47 || byte == 63

-- an authority goes to the first of them, or to the end
abbrev pub authority_len : List ℕ → ℕ
authority_len rest = position_or_len ends_authority rest

abbrev pub authority_in : List ℕ → List ℕ
authority_in rest = take (authority_len rest) rest

abbrev pub is_rooted : List ℕ → Bool
is_rooted [] = false
is_rooted (byte ∷ bytes) = byte == 47

-- a path begins with a slash
abbrev pub rooted : List ℕ → List ℕ
rooted path = if is_rooted path then path else 47 ∷ path

-- what stands behind the authority: the path with its query
abbrev pub path_in : List ℕ → List ℕ
path_in rest = rooted (drop (authority_len rest) rest)

abbrev pub is_without_authority : Option (List ℕ) → Bool
is_without_authority None = false
is_without_authority (Some rest) = authority_len rest == 0

-- the target is absolute and its authority is empty: no request may have such a one (RFC 9110, section 4.2.1)
abbrev pub lacks_authority : List ℕ → Bool
lacks_authority target = is_without_authority (behind_scheme target)
