-- The operators of a ban's conditions, and the patterns that they search for (vcl(7), "Bans").
use Rattle.std.specs.Prelude.{◌⊎◌, ◌<◌, ◌≤◌, ℕ, Bool, true, false, List, [], ◌∷◌, length, codes, Option}
use Rattle.std.specs.Map.{lookup}
use Rattle.std.specs.Str.{bytes_eq}
use Rattle.vcl_values.specs.declared.comparisons.Comparison.{Comparison}
use Rattle.vcl_values.specs.declared.comparisons.Comparison.TheVariants as comparison
use Rattle.vcl_values.specs.Readings.{IsAccepted, HasNoReading, NestsTooDeep}
use Rattle.cache_law.specs.declared.ban.TextOperator.{TextOperator}
use Rattle.cache_law.specs.declared.ban.TextOperator.TheVariants as text

abbrev pub text_operators : List (List ℕ × TextOperator)
text_operators =
    (codes "==", text.Equal) ∷ (codes "!=", text.NotEqual) ∷ (codes "~", text.Matches) ∷ (codes "!~", text.MatchesNot) ∷ []

-- the operator of texts that a word is
unfoldable pub text_operator : List ℕ → Option TextOperator
text_operator word = lookup (bytes_eq word) text_operators

abbrev pub comparisons : List (List ℕ × Comparison)
comparisons =
    (codes "==", comparison.Equal)
    ∷ (codes "!=", comparison.NotEqual)
    ∷ (codes "<", comparison.Less)
    ∷ (codes "<=", comparison.LessOrEqual)
    ∷ (codes ">", comparison.Greater)
    ∷ (codes ">=", comparison.GreaterOrEqual)
    ∷ []

-- the comparison of times that a word is
unfoldable pub comparison_of : List ℕ → Option Comparison
comparison_of word = lookup (bytes_eq word) comparisons

-- the operator takes its argument as a pattern
abbrev pub is_search : TextOperator → Bool
is_search text.Equal = false
is_search text.NotEqual = false
is_search text.Matches = true
is_search text.MatchesNot = true

-- a text is a pattern: it has at most 4,096 bytes, and the grammar of patterns reads it within its depth
abbrev pub IsPattern : List ℕ → Type 0
IsPattern text = (length text ≤ 4096) × IsAccepted text

-- a text is no pattern
abbrev pub IsNoPattern : List ℕ → Type 0
IsNoPattern text = (4096 < length text) ⊎ (HasNoReading text ⊎ NestsTooDeep text)
