-- Places of a history, counted.
use Rattle.std.specs.Prelude.{◌≡◌, ◌==◌, ◌<◌, ◌≤◌, ℕ, ◌+◌, List, [], ◌∷◌, length, if◌then◌else◌}

-- how often a number stands in a list
abbrev pub times : ℕ → List ℕ → ℕ
times k [] = 0
times k (n ∷ ns) = (if k == n then 1 else 0) + times k ns

-- Each place of a history stands there once, and no other number does.
pub record EachOnce {E : Type 0} (history : List E) (numbers : List ℕ) : Type 0 where
  pub within : (k : ℕ) → k < length history → times k numbers ≡ 1
  pub beyond : (k : ℕ) → length history ≤ k → times k numbers ≡ 0

-- no number stands twice in the list
abbrev pub AtMostOnce : List ℕ → Type 0
AtMostOnce ns = (k : ℕ) → times k ns ≤ 1

-- each number is above this one
abbrev pub AllAbove : ℕ → List ℕ → Type 0
AllAbove low [] = Unit {0}
AllAbove low (n ∷ ns) = (low < n) × AllAbove low ns
