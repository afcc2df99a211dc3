-- Which member a director chooses (the Varnish Users' Guide, "Directors", and the manual of vmod_directors).
-- A member is its weight, and one of weight 0 isn't healthy.
use Rattle.std.specs.Prelude.{◌≡◌, ℕ, ◌+◌, ◌-◌, ◌%◌, ◌<◌, ◌≤◌, ◌++◌, nat_lt, List, [], ◌∷◌, Option, Some, None, length, sum, take, drop, slice_index, if◌then◌else◌}
use Rattle.std.specs.List.{position}
use Rattle.std.specs.Option.{option_map}
use Rattle.directors.specs.declared.director.DirectorKind.{DirectorKind}
use Rattle.directors.specs.declared.director.DirectorKind.TheVariants.{One, RoundRobin, Fallback, Random, Hash}

-- a healthy member stands at the place
abbrev pub IsHealthy : List ℕ → ℕ → Type 0
IsHealthy weights place = 0 < slice_index weights place

-- the first healthy member at a place or behind it, in the list's order
pub record IsFirstFrom (weights : List ℕ) (start place : ℕ) : Type 0 where
  pub behind : start ≤ place
  pub healthy : IsHealthy weights place
  pub before : (earlier : ℕ) → start ≤ earlier → earlier < place → slice_index weights earlier ≡ 0

-- the first healthy member met from a place on, going round: it stands so many places further on, and the
-- members at fewer places further on aren't healthy
pub record IsNextRound (weights : List ℕ) (start place : ℕ) : Type 0 where
  pub further : ℕ
  pub here : (start + further) % length weights ≡ place
  pub healthy : IsHealthy weights place
  pub before : (fewer : ℕ) → fewer < further → slice_index weights ((start + fewer) % length weights) ≡ 0

-- the member in whose range the number falls, the weights being laid end to end in the list's order
pub record HasShare (weights : List ℕ) (number place : ℕ) : Type 0 where
  pub within : place < length weights
  pub low : sum (take place weights) ≤ number
  pub high : number < sum (take place weights) + slice_index weights place

-- the member that a director of a kind chooses, with its counter and its word
abbrev pub Chooses : DirectorKind → List ℕ → ℕ → ℕ → ℕ → Type 0
Chooses One weights next word place = IsFirstFrom weights 0 place
Chooses Fallback weights next word place = IsFirstFrom weights 0 place
Chooses RoundRobin weights next word place = IsNextRound weights (next % length weights) place
Chooses Random weights next word place = HasShare weights (word % sum weights) place
Chooses Hash weights next word place = HasShare weights (word % sum weights) place

-- the place of the first healthy member
abbrev pub first_healthy : List ℕ → Option ℕ
first_healthy weights = position (nat_lt 0) weights

-- the place of the first healthy member from a place on, going round
abbrev pub next_healthy : ℕ → List ℕ → Option ℕ
next_healthy start weights =
    option_map (λ further. (start + further) % length weights) (first_healthy (drop start weights ++ take start weights))

-- the place of the member in whose range the number falls, the weights being laid end to end
abbrev pub share_of : ℕ → List ℕ → Option ℕ
share_of number [] = None
share_of number (weight ∷ weights) =
    if nat_lt number weight then Some 0 else option_map (λ place. place + 1) (share_of (number - weight) weights)

-- the place that a director of a kind chooses, with its counter and its word, where a member is healthy
abbrev pub choice : DirectorKind → List ℕ → ℕ → ℕ → Option ℕ
choice One weights next word = first_healthy weights
choice Fallback weights next word = first_healthy weights
choice RoundRobin weights next word = next_healthy (next % length weights) weights
choice Random weights next word = share_of (word % sum weights) weights
choice Hash weights next word = share_of (word % sum weights) weights
