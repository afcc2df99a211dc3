-- The steps of a search: rows of called subroutines, and what one visit does.
use Rattle.std.specs.Prelude.{ℕ, ◌≡◌, ◌<◌, ◌≤◌, ◌+◌, ◌*◌, ◌==◌, ◌⊎◌, Bool, not, List, [], ◌∷◌, length, map, filter, count_by, slice_index_or}
use Rattle.vcl_symbols.specs.declared.call_graph.Call.{Call}
use Rattle.vcl_symbols.specs.Calls.{Marked}

-- the subroutines that v calls, one for each of its calls
abbrev pub callees_of : List Call → ℕ → List ℕ
callees_of calls v = map (λ call. call.to) (filter (λ call. call.from == v) calls)

-- a row for each subroutine has what it calls
pub record AreRows (rows : List (List ℕ)) (calls : List Call) (count : ℕ) : Type 0 where
  pub long : length rows ≡ count
  pub each : (v : ℕ) → v < count → slice_index_or rows v [] ≡ callees_of calls v

-- w is one of the numbers
abbrev pub Among : List ℕ → ℕ → Type 0
Among [] w = ⊥
Among (v ∷ vs) w = (v ≡ w) ⊎ Among vs w

abbrev pub unmarked : List Bool → ℕ
unmarked marks = count_by (λ mark. not mark) marks

-- what a visit of a row does to the marks and to the numbers that wait: each of the row is marked, and the
-- newly marked ones wait
pub record Visited (row : List ℕ) (marks : List Bool) (waiting : List ℕ) (marks' : List Bool) (waiting' : List ℕ) : Type 0 where
  pub long : length marks' ≡ length marks
  pub keeps : (v : ℕ) → Marked marks v → Marked marks' v
  pub row_marked : (v : ℕ) → Among row v → Marked marks' v
  pub new_of_row : (v : ℕ) → Marked marks' v → Marked marks v ⊎ Among row v
  pub new_wait : (v : ℕ) → Marked marks' v → Marked marks v ⊎ Among waiting' v
  pub still_wait : (v : ℕ) → Among waiting v → Among waiting' v
  pub waiters_marked : (v : ℕ) → Among waiting' v → Among waiting v ⊎ Among row v
  pub less : 2 * unmarked marks' + length waiting' ≤ 2 * unmarked marks + length waiting
