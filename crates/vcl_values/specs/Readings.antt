-- Patterns of VCL as the crate `regex` reads them: over bytes, with Unicode classes.
use Rattle.std.specs.Prelude.{◌≡◌, ◌<◌, ◌≤◌, false, List, ℕ, [], Option, None, option_map, option_and_then, IsSomeAnd, if◌then◌else◌}
use Rattle.std.specs.Option.{option_map_or}
use Rattle.std.specs.Str.{chars, is_utf8}
use Rattle.regex.specs.Patterns.{Re, Match, find, find_all, Config, default_config}
use Rattle.regex_syntax.specs.Brackets.{Nested}
use Rattle.regex_syntax.specs.Grammar.{Names, read}

-- bytes are matched, classes are Unicode's, and nesting goes to a depth of 250
abbrev pub options : Config
options = record default_config { utf8 = false }

-- how the grammar of `regex` reads a text, if it does; a text that isn't UTF-8 has no reading
unfoldable pub reading : List ℕ → Option (Nested Re × Names)
reading source = if is_utf8 source then read options (chars source) else None

-- the text is no pattern
abbrev pub HasNoReading : List ℕ → Type 0
HasNoReading source = reading source ≡ None

-- it is one, and nests too deep for `regex`
abbrev pub NestsTooDeep : List ℕ → Type 0
NestsTooDeep source = IsSomeAnd (reading source) (λ r. options.nest_limit < r.0.depth)

-- it is one within that depth
abbrev pub IsAccepted : List ℕ → Type 0
IsAccepted source = IsSomeAnd (reading source) (λ r. r.0.depth ≤ options.nest_limit)

-- the pattern that a text is
unfoldable pub tree_of : List ℕ → Option Re
tree_of source = option_map (λ r. r.0.value) (reading source)

-- the leftmost match of a pattern in a text, and all matches that don't overlap, from the left
unfoldable pub first_found : List ℕ → List ℕ → Option Match
first_found source text = option_and_then (λ re. find re text 0) (tree_of source)

unfoldable pub all_found : List ℕ → List ℕ → List Match
all_found source text = option_map_or (λ re. find_all re text) (tree_of source) []
