-- What the conditions of a ban search texts for.
use Rattle.std.specs.Prelude.{ℕ, Bool, false, List, Option, None, Some}
use Rattle.cache_law.specs.declared.ban.TextOperator.{TextOperator}
use Rattle.cache_law.specs.declared.ban.TextOperator.TheVariants.{Matches, MatchesNot}
use Rattle.cache_law.specs.declared.ban.Condition.{Condition}
use Rattle.cache_law.specs.declared.ban.Condition.TheVariants.{OnText, OnTime}
use Rattle.cache_law.specs.Bans.{has_match}

-- the pattern that an operator searches for, which is its argument, where it searches
abbrev pub sought_by : TextOperator → List ℕ → Option (List ℕ)
sought_by Matches argument = Some argument
sought_by MatchesNot argument = Some argument
sought_by operator argument = None

-- the pattern that a condition searches for, where it searches
abbrev pub sought : Condition → Option (List ℕ)
sought (OnText field operator argument) = sought_by operator argument
sought (OnTime field comparison milliseconds) = None

-- there is a pattern, and it matches somewhere in the text, which is there
abbrev pub finds : Option (List ℕ) → Option (List ℕ) → Bool
finds None found = false
finds (Some pattern) found = has_match pattern found
